-- `forms::copy::records_end`: from the last slot down, the records that were passed are empty.
use Prim.Native.Nat.{◌≤◌}
use Rattle.records.specs.Records.{slot_count}
use Rattle.layout.specs.View.{EmptyFrom}
use Rattle.rows.specs.View.{state_of_rows}
use Rattle.forms.proofs.copy.records_end.Given as goal

abbrev pub invariant-loop-s : goal.invariant-loop-s
invariant-loop-s l = (l.s ≤ slot_count) × EmptyFrom (state_of_rows l.rows) l.s
