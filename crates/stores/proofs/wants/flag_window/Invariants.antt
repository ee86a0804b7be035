-- `stores::wants::flag_window`: after k turns the given numbers among the window's first k are flagged. Assumes nothing.
use Prim.Native.Nat.{◌≤◌}
use lib.ListN.{take}
use Rattle.gossip.specs.Notes.{has}
use Rattle.stores.specs.Marks.{Flags}
use Rattle.stores.specs.View.{window_at}
use Rattle.stores.proofs.wants.flag_window.Given as goal

abbrev pub invariant-loop-k : goal.invariant-loop-k
invariant-loop-k l = (l.k ≤ l.n) × Flags (λ x. has x (take l.k (window_at l.cells l.p))) l.rising l.initial.known l.known
