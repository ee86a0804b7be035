-- `replies::lanes_ok`: after j turns the first j lanes are within their bounds.
use Prim.Native.Nat.{◌+◌, ◌*◌, ◌≤◌}
use mathlib.Core.Path.{◌≡◌}
use mathlib.Core.Bool.{true}
use Rattle.index.specs.Index.{every}
use Rattle.replies.specs.View.{lane_count, lane_in}
use Rattle.replies.specs.Asked.{on_bits, lane_fits}
use Rattle.replies.proofs.lanes_ok.Given as goal

abbrev pub invariant-loop-j : goal.invariant-loop-j
invariant-loop-j l = (l.j ≤ lane_count) × (every l.j (λ i. lane_fits (on_bits l.connected) l.most (lane_count * l.k + i) (lane_in l.x i)) ≡ true)
