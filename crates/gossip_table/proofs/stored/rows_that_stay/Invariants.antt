-- `gossip_table::stored::rows_that_stay`: the loop builds the flags from the front.
use Rattle.index.proofs.Kit.{◌≤◌, false}
use Rattle.index.proofs.Lists.{Built}
use mathlib.Core.List.{map}
use lib.ListN.{get_or}
use Rattle.gossip.specs.Notes.{rows_most, stored}
use Rattle.gossip.specs.Valid.{row_number}
use Rattle.gossip_table.specs.View.{gossip_of}
use Rattle.gossip_table.proofs.stored.rows_that_stay.Given as goal

abbrev pub invariant-loop-row : goal.invariant-loop-row
invariant-loop-row l =
    Built false (λ k. stored (gossip_of l.gossip) (get_or (map row_number (gossip_of l.gossip).replies) k 0)) rows_most l.row l.flags × (l.row ≤ l.end)
