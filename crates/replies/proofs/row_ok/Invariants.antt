-- `replies::row_ok`: after k turns the first k cells of lanes are within their bounds.
use Prim.Native.Nat.{◌+◌, ◌≤◌}
use mathlib.Core.Path.{◌≡◌}
use mathlib.Core.Bool.{true}
use lib.ListN.{get_or}
use Rattle.index.specs.Index.{every}
use Rattle.replies.specs.View.{lane_cells, start_of}
use Rattle.replies.specs.Asked.{on_bits, cell_fits}
use Rattle.replies.proofs.row_ok.Given as goal

abbrev pub invariant-loop-k : goal.invariant-loop-k
invariant-loop-k l =
    (l.k ≤ lane_cells) × (every l.k (λ i. cell_fits (on_bits l.connected) l.most i (get_or l.cells (start_of l.r + (2 + i)) 0)) ≡ true)
