-- `notes::rises`: up to k, each number is above the one before it.
use Prim.Native.Nat.{◌≤◌, ◌-◌}
use mathlib.Core.Path.{◌≡◌}
use Rattle.index.specs.Index.{every}
use Rattle.notes.proofs.SetLaws.{next_above, cells_from}
use Rattle.notes.proofs.rises.Given as goal

abbrev pub invariant-loop-k : goal.invariant-loop-k
invariant-loop-k l = (l.k - 1 ≤ l.n - 1) × (l.ok ≡ every (l.k - 1) (next_above (cells_from l.cells l.at)))
