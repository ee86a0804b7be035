use mathlib.Core.Path.{◌∙◌}
use native.Mathlib.Omega.{arith}
use Rattle.save_load.proofs.RangeLaws.{fill_none, fill_more, fill_done}
use Rattle.save_load.proofs.ranges.fill_most.Goals as goal

pub loop-t-init : goal.loop-t-init
loop-t-init c = fill_none _ _

pub put_topic-requires : goal.put_topic-requires
put_topic-requires c =
    let n = c.loop-t.invariant.same in
    let k = c.put_peer.auto.most in
    let h = c.loop-t-test.true in
    let p = c.requires.1 in
    omega arith

pub loop-t-preserved : goal.loop-t-preserved
loop-t-preserved c =
    let l = c.loop-t in
    let p = c.put_topic in
    fill_more
    c.args.codes.now l.t _ _
    c.put_peer.new.most l.most
    p.new.most c.loop-t-test.true l.invariant p.auto.most
    p.ensures
    c.magnitude-cap2.ensures
    c.magnitude-cap3.ensures

pub shape_of-most : goal.shape_of-most
shape_of-most c = c.loop-t.invariant.same ∙ c.put_peer.auto.most

pub returns : goal.returns
returns c st e =
    let l = c.loop-t in
    fill_done c.args.codes.now l.t c.args.most.now c.put_peer.new.most l.most
    c.loop-t-test.false c.requires.1
    c.put_peer.ensures
    l.invariant
    st
    e
