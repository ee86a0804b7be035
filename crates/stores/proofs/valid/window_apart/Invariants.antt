-- `stores::valid::window_apart`: after k turns the numbers up to the window's first k are apart, each with its bucket marked.
-- Assumes nothing.
use Prim.Native.Nat.{◌≤◌}
use mathlib.Core.Bool.{true}
use mathlib.Core.Path.{◌≡◌}
use Rattle.gossip.specs.Valid.{apart}
use Rattle.stores.specs.Marks.{up_to, Seen}
use Rattle.stores.proofs.valid.window_apart.Given as goal

abbrev pub invariant-loop-k : goal.invariant-loop-k
invariant-loop-k l = (l.k ≤ l.n) × (apart (up_to l.cells l.t l.w l.k) ≡ true) × Seen (up_to l.cells l.t l.w l.k) l.seen
