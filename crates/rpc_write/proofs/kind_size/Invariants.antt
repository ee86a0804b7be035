-- `rpc_write::kind_size` meets its contract: the loop's invariant: the sum so far is the length of the first i entries' bytes, at most 80
-- each. Assumes nothing.
use Rattle.index.proofs.Kit.{◌*◌, ◌≤◌, ◌≡◌, gather}
use lib.ListN.{length}
use Rattle.rpc_write.specs.Tables.{known_by}
use Rattle.rpc_write.proofs.WriteLaws.{bytes_at}
use Rattle.rpc_write.proofs.kind_size.Given as goal

abbrev pub invariant-loop-i : goal.invariant-loop-i
invariant-loop-i l =
    (l.i ≤ l.n) × ((l.size ≤ 80 * l.i) × (l.size ≡ length (gather l.i (bytes_at (known_by l.t) l.list l.kind l.number))))
