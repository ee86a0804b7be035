use native.Mathlib.Omega.{arith}
use Rattle.notes.proofs.SetLaws.{every_start, ages_more, ages_done}
use Rattle.notes.proofs.ages_ok.Goals as goal

pub loop-k-init : goal.loop-k-init
loop-k-init c = (omega arith, every_start _)

pub loop-k-preserved : goal.loop-k-preserved
loop-k-preserved c =
    let l = c.loop-k in
    let a = c.args in
    (omega arith, ages_more a.ages l.k _ l.ok l.invariant.1 c.digit.ensures.0)

pub returns : goal.returns
returns c =
    let l = c.loop-k in
    let a = c.args in
    ages_done a.ages a.n l.k l.ok (omega arith) (omega arith) l.invariant.1
