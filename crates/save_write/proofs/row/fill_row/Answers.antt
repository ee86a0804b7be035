use Prim.Native.Nat.{◌-◌}
use mathlib.Core.Path.{ap, ◌∙◌}
use native.Mathlib.Omega.{arith}
use lib.ListN.{get_or}
use mathlib.Core.List.{[], ◌∷◌}
use lib.Seq.{sets}
use Rattle.records.specs.declared.Peer.{Peer}
use Rattle.save_write.proofs.FillLaws.{fill_none, fill_more, fill_done, saved_is}
use Rattle.save_write.proofs.row.fill_row.Goals as goal

pub loop-t-init : goal.loop-t-init
loop-t-init c = fill_none _ _ _ _

pub load_topic-r-requires : goal.load_topic-r-requires
load_topic-r-requires c = (c.requires.0.size, omega arith)

pub put_topic-requires : goal.put_topic-requires
put_topic-requires c =
    let l = c.loop-t in
    let n = l.invariant.same in
    let k = c.put_peer.auto.row in
    let t = c.loop-t-test.true in
    let p = c.requires.1.1 in
    omega arith

pub loop-t-preserved : goal.loop-t-preserved
loop-t-preserved c =
    let l = c.loop-t in
    fill_more _ _ _ l.t _ _ _ _ _ c.loop-t-test.true l.invariant
    c.put_topic.auto.row
    c.put_topic.ensures
    c.load_topic-r.ensures.0
    (c.left_of.ensures
    ∙ ap (λ (p : Peer). get_or p.backoff l.t 0 - c.args.time)
    c.left_at-p.ensures)

pub shape_of-row : goal.shape_of-row
shape_of-row c = c.loop-t.invariant.same ∙ c.put_peer.auto.row

pub returns : goal.returns
returns c =
    let l = c.loop-t in
    saved_is _ _ _ _
    (fill_done _ _ _ l.t c.args.row.now _ _ c.loop-t-test.false c.requires.1.1
    (c.put_peer.ensures
    ∙ ap (λ (p : Peer). sets c.args.row.now 0 (p.id ∷ (p.retain - c.args.time) ∷ p.p5 ∷ p.p7 ∷ []))
    c.left_at-p.ensures)
    l.invariant)
