-- `message_ids::numbers_ok` meets its contract: the loop's invariant: the first k places are accepted. Assumes nothing.
use Rattle.index.proofs.Kit.{◌≤◌, ◌≡◌, true, every}
use lib.ListN.{length}
use Rattle.message_ids.specs.Ids.{place_ok}
use Rattle.message_ids.proofs.numbers_ok.Given as goal

abbrev pub invariant-loop-k : goal.invariant-loop-k
invariant-loop-k l = (l.k ≤ length l.numbers) × (every l.k (place_ok l.numbers l.order) ≡ true)
