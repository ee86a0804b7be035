-- `stores::wants::flag_stored`: after p turns the given numbers of the first p windows are flagged. Assumes nothing.
use Prim.Native.Nat.{◌≤◌}
use Rattle.gossip.specs.Notes.{has, some}
use Rattle.stores.specs.Marks.{Flags}
use Rattle.stores.specs.View.{all_windows, window_at}
use Rattle.stores.proofs.wants.flag_stored.Given as goal

abbrev pub invariant-loop-p : goal.invariant-loop-p
invariant-loop-p l = (l.p ≤ all_windows) × Flags (λ x. some l.p (λ q. has x (window_at l.cells q))) l.rising l.initial.known l.known
