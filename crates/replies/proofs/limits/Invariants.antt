-- `replies::limits`: after k turns the first k cells of limits are there.
use Prim.Native.Nat.{◌≤◌}
use mathlib.Core.Path.{◌≡◌}
use lib.ListN.{length}
use Rattle.replies.specs.View.{lane_cells}
use Rattle.replies.specs.Asked.{on_bits}
use Rattle.replies.proofs.LimitLaws.{AllowTo}
use Rattle.replies.proofs.limits.Given as goal

abbrev pub invariant-loop-k : goal.invariant-loop-k
invariant-loop-k l = (l.k ≤ lane_cells) × (length l.l ≡ lane_cells) × AllowTo (on_bits l.connected) l.most l.k l.l
