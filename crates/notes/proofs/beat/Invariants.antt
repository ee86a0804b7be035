-- `notes::beat`: the notes of the first s slots are beaten.
use Rattle.notes.proofs.NoteLaws.{Beating}
use Rattle.notes.proofs.beat.Given as goal

abbrev pub invariant-loop-s : goal.invariant-loop-s
invariant-loop-s l = Beating l.initial.cells l.cells l.s
