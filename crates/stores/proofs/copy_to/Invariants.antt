-- `stores::copy_to`: after k turns the first k numbers are in the list. Assumes nothing.
use Prim.Native.Nat.{◌≤◌}
use mathlib.Core.Path.{◌≡◌}
use lib.ListN.{length, take}
use lib.Seq.{sets}
use Rattle.stores.proofs.copy_to.Given as goal

abbrev pub invariant-loop-k : goal.invariant-loop-k
invariant-loop-k l = (l.k ≤ length l.from) × (l.list ≡ sets l.initial.list l.at (take l.k l.from))
