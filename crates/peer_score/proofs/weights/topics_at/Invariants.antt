-- `peer_score::weights::topics_at`. The invariant: the sum is that of the topics passed.
-- Assumes nothing.
use Prim.Native.Nat.{◌≤◌}
use mathlib.Core.Path.{◌≡◌}
use Rattle.layout.specs.View.{state_of}
use Rattle.score.specs.Sums.{sum_of}
use Rattle.score.specs.Score.{share_at}
use Rattle.peer_score.proofs.weights.topics_at.Given as goal

abbrev pub invariant-loop-t : goal.invariant-loop-t
invariant-loop-t l = (l.t ≤ 8) × (l.sum ≡ sum_of l.t (share_at (state_of l.table) l.slot))
