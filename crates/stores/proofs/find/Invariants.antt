-- `stores::find`: the first p windows of all lack it. Assumes nothing.
use Prim.Native.Nat.{◌≤◌}
use mathlib.Core.Bool.{false}
use mathlib.Core.Path.{◌≡◌}
use Rattle.gossip.specs.Notes.{has, some}
use Rattle.stores.specs.View.{all_windows, window_at}
use Rattle.stores.proofs.find.Given as goal

abbrev pub invariant-loop-p : goal.invariant-loop-p
invariant-loop-p l = (l.p ≤ all_windows) × (some l.p (λ q. has l.n (window_at l.cells q)) ≡ false)
