-- `trace_feed::front_in`: fewer than two bytes, others than two zeros, no third byte, or what it says.
use native.Mathlib.Omega.{arith}
use Rattle.trace_feed.proofs.TurnLaws.{front_few, front_first, front_cut, front_third}
use Rattle.trace_feed.proofs.front_in.Goals as goal

pub returns-then-s-lt2 : goal.returns-then-s-lt2
returns-then-s-lt2 c = front_few _ c.if-s-lt2.true

pub returns-then-not-s : goal.returns-then-not-s
returns-then-not-s c = front_first _ c.if-s-lt2.false c.if-not-s.true

pub returns-then-s-eq2 : goal.returns-then-s-eq2
returns-then-s-eq2 c = front_cut _ c.if-s-eq2.true c.if-not-s.false

pub bounds-s-2 : goal.bounds-s-2
bounds-s-2 c = let n = c.if-s-eq2.false in omega arith

pub returns : goal.returns
returns c = front_third _ _ c.if-s-lt2.false c.if-s-eq2.false
    c.if-not-s.false c.of_third.ensures
