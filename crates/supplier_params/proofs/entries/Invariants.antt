-- `supplier_params::entries` meets its contract.
-- The loop keeps the first i numbers taken, and that none of their entries is broken.
-- Assumes nothing.
use Rattle.supplier_params.proofs.ImportLaws.{Taken}
use Rattle.supplier_params.proofs.entries.Given as goal

abbrev pub invariant-loop-i : goal.invariant-loop-i
invariant-loop-i l = Taken l.s l.i l.numbers
