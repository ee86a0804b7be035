-- `notes::age_row`: the first i entries are gone through, m are left.
use Rattle.notes.proofs.HeldLaws.{Aging}
use Rattle.notes.proofs.age_row.Given as goal

abbrev pub invariant-loop-i : goal.invariant-loop-i
invariant-loop-i l = Aging l.initial.cells l.cells l.at l.ages l.n l.i l.m l.left
