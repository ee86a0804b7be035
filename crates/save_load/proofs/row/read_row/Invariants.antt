-- `save_load::row::read_row`: after i numbers the row has them (`Reading`). Assumes nothing.
use Rattle.save_load.proofs.StoreLaws.{Reading}
use Rattle.save_load.proofs.row.read_row.Given as goal

abbrev pub invariant-loop-i : goal.invariant-loop-i
invariant-loop-i l = Reading l.s l.at l.i l.place l.row
