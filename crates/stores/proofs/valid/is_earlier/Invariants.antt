-- `stores::valid::is_earlier`: the first v windows lack it. Assumes nothing.
use Prim.Native.Nat.{◌≤◌}
use mathlib.Core.Bool.{false}
use mathlib.Core.Path.{◌≡◌}
use Rattle.gossip.specs.Notes.{has}
use Rattle.stores.specs.Marks.{before}
use Rattle.stores.proofs.valid.is_earlier.Given as goal

abbrev pub invariant-loop-v : goal.invariant-loop-v
invariant-loop-v l = (l.v ≤ l.w) × (has l.n (before l.cells l.t l.v) ≡ false)
