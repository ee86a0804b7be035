-- `save_load::passes::first_outside`: the numbers before i are inside (JudgeLaws). Assumes nothing.
use Rattle.save_load.proofs.JudgeLaws.{Going}
use Rattle.save_load.proofs.passes.first_outside.Given as goal

abbrev pub invariant-loop-i : goal.invariant-loop-i
invariant-loop-i l = Going l.most l.s l.at l.n l.i l.place l.last
