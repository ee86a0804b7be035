-- `supplier_entry::search` meets its contract.
-- The bits of n / 1000 rise with n, so what lies below `from` has smaller bits and what lies from `to` on has larger ones.
-- Assumes nothing.
use Rattle.index.proofs.Kit.{◌-◌}
use Rattle.supplier_entry.proofs.FactorLaws.{Halved}
use Rattle.supplier_entry.proofs.search.Given as goal

abbrev pub invariant-loop-from : goal.invariant-loop-from
invariant-loop-from l = Halved l.low l.high l.bits l.from l.to

abbrev pub decreases-loop-from : goal.decreases-loop-from
decreases-loop-from l = l.to - l.from
