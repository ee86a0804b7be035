-- `message_ids::ids_ok` meets its contract: the loop's invariant: the first k rows are accepted. Assumes nothing.
use Rattle.index.proofs.Kit.{◌≤◌, ◌≡◌, true, every}
use Rattle.message_ids.specs.Ids.{id_ok}
use Rattle.message_ids.proofs.ids_ok.Given as goal

abbrev pub invariant-loop-k : goal.invariant-loop-k
invariant-loop-k l = (l.k ≤ l.rows) × (every l.k (id_ok l.ids) ≡ true)
