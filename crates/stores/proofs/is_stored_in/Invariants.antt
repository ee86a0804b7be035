-- `stores::is_stored_in`: the first w windows lack it. Assumes nothing.
use Prim.Native.Nat.{◌+◌, ◌*◌, ◌≤◌}
use mathlib.Core.Bool.{false}
use mathlib.Core.Path.{◌≡◌}
use Rattle.gossip.specs.Notes.{window_count, has, some}
use Rattle.stores.specs.View.{window_at}
use Rattle.stores.proofs.is_stored_in.Given as goal

abbrev pub invariant-loop-w : goal.invariant-loop-w
invariant-loop-w l = (l.w ≤ window_count) × (some l.w (λ v. has l.n (window_at l.cells (l.t * window_count + v))) ≡ false)
