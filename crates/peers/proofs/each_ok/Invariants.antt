-- `peers::each_ok`: the flag tells whether all groups passed are in range.
-- Assumes nothing.
use Prim.Native.Nat.{◌≤◌}
use mathlib.Core.Path.{◌≡◌}
use lib.ListN.{length}
use Rattle.index.specs.Index.{every}
use Rattle.rules.specs.Calls.{group_ok}
use Rattle.peers.proofs.each_ok.Given as goal

abbrev pub invariant-loop-k : goal.invariant-loop-k
invariant-loop-k l = (l.k ≤ length l.groups) × (l.ok ≡ every l.k (group_ok l.groups))
