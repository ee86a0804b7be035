-- `gossip_table::tests::rows_stored`: the loop asks row by row.
use Rattle.index.proofs.Kit.{◌≤◌, ◌≡◌, every, true}
use Rattle.gossip_table.specs.View.{gossip_of}
use Rattle.gossip_table.specs.Fine.{is_kept}
use Rattle.gossip_table.proofs.tests.rows_stored.Given as goal

abbrev pub invariant-loop-row : goal.invariant-loop-row
invariant-loop-row l = (l.row ≤ l.end) × (every l.row (is_kept (gossip_of l.gossip)) ≡ true)
