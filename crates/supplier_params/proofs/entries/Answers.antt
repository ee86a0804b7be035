use Rattle.index.proofs.Kit.{refl, arith, rules}
use mir.Syntax.{w64}
use mir.Val.{SFits}
use mir.Facts.{to_z-of_z}
use Rattle.supplier_params.proofs.ImportLaws.{taken_none, taken_more, taken_broken, taken_all}
use Rattle.supplier_params.proofs.entries.Goals as goal

pub loop-i-init : goal.loop-i-init
loop-i-init c = taken_none _ _ (search rules)

pub returns-in_default : goal.returns-in_default
returns-in_default c = let l = c.loop-i in (
  _,
  (refl, taken_broken _ l.i l.numbers _ l.invariant c.loop-i-test.true c.number_at.ensures c.in_default.is),
)

pub bounds-numbers-i : goal.bounds-numbers-i
bounds-numbers-i c = let l = c.loop-i in omega (arith, l.invariant.len)

pub loop-i-preserved : goal.loop-i-preserved
loop-i-preserved c =
    let l = c.loop-i in
    let f : SFits w64 c.in-Some.n = search rules in
    rw (to_z-of_z f)
    (taken_more _ l.i l.numbers _ l.invariant c.loop-i-test.true
    c.number_at.ensures _ c.in-Some.is)

pub returns : goal.returns
returns c = let l = c.loop-i in taken_all _ l.i l.numbers c.loop-i-test.false l.invariant
