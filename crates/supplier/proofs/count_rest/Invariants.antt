-- `supplier::count_rest` meets its contract. Assumes nothing.
use Rattle.index.proofs.Kit.{◌+◌, ◌*◌, ◌≤◌, ◌≡◌}
use lib.ListN.{length}
use Rattle.supplier.proofs.count_rest.Given as goal

-- each turn reads at most a page
abbrev pub invariant-loop-turns : goal.invariant-loop-turns
invariant-loop-turns g l =
    (length l.page ≡ length l.initial.page) × (l.turns ≤ 4398046511104) × (l.total + 4096 * l.turns ≤ 18014398509481984)

abbrev pub decreases-loop-turns : goal.decreases-loop-turns
decreases-loop-turns g l = l.turns
