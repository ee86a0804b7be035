-- `message_ids::compare` meets its contract: the first k bytes are the same, so what follows decides. Assumes nothing.
use Rattle.index.proofs.Kit.{◌≤◌, ◌≡◌}
use lib.ListN.{length, drop}
use Rattle.std.specs.Ordering.{nat_cmp}
use Rattle.std.specs.Cmp.Lexicographic.{slice_cmp}
use Rattle.message_ids.proofs.compare.Given as goal

abbrev pub invariant-loop-k : goal.invariant-loop-k
invariant-loop-k l = (l.k ≤ length l.a) × (slice_cmp nat_cmp l.a l.b ≡ slice_cmp nat_cmp (drop l.k l.a) (drop l.k l.b))
