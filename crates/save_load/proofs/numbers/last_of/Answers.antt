use native.Mathlib.Omega.{arith}
use Rattle.save_load.proofs.NumberLaws.{reach_start, reach_more, reach_end}
use Rattle.save_load.proofs.numbers.last_of.Goals as goal

pub limit_of-limit-requires : goal.limit_of-limit-requires
limit_of-limit-requires c = c.requires

pub loop-place-init : goal.loop-place-init
loop-place-init c = reach_start _ _ c.requires

pub bounds-s-place : goal.bounds-s-place
bounds-s-place c = c.loop-place.invariant.high

pub returns-then-wide-lt-GROUP : goal.returns-then-wide-lt-GROUP
returns-then-wide-lt-GROUP c = c.loop-place.invariant

pub loop-place-preserved : goal.loop-place-preserved
loop-place-preserved c =
    let l = c.limit_of-limit.ensures in
    reach_more _ _ _ _ c.loop-place.invariant (omega (arith, l.1)) c.wide.ensures (omega arith)

pub returns : goal.returns
returns c = reach_end _ _ _ _ c.loop-place.invariant (omega (arith, c.limit_of-limit.ensures.0))
