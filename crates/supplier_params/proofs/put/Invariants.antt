-- `supplier_params::put` meets its contract.
-- The loop keeps the first i entries written, and the rest of the buffer as it was.
-- Assumes nothing.
use Rattle.supplier_params.proofs.ExportLaws.{Put}
use Rattle.supplier_params.proofs.put.Given as goal

abbrev pub invariant-loop-i : goal.invariant-loop-i
invariant-loop-i l = Put l.all.numbers l.i l.initial.buf l.buf
