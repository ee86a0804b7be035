-- `peer_score::sharing_of`. The invariant: n counts the slots passed.
-- Assumes nothing.
use Prim.Native.Nat.{◌≤◌}
use mathlib.Core.Path.{◌≡◌}
use Rattle.index.specs.Index.{count}
use Rattle.layout.specs.View.{state_of}
use Rattle.score.specs.Score.{shares_group}
use Rattle.peer_score.proofs.sharing_of.Given as goal

abbrev pub invariant-loop-slot : goal.invariant-loop-slot
invariant-loop-slot l = (l.slot ≤ l.end) × ((l.n ≤ l.slot) × (l.n ≡ count l.slot (shares_group (state_of l.table) l.group)))
