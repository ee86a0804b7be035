-- `rpc_write::put_kind` meets its contract: the loop's invariant: the first i entries' bytes stand one after the other, at most 80 each.
-- Assumes nothing.
use Rattle.index.proofs.Kit.{◌+◌, ◌*◌, ◌≤◌, gather, ◌≡◌}
use lib.ListN.{length}
use Rattle.rpc_write.specs.Tables.{known_by}
use Rattle.rpc_write.specs.Writing.{Stored}
use Rattle.rpc_write.proofs.WriteLaws.{bytes_at}
use Rattle.rpc_write.proofs.put_kind.Given as goal

abbrev pub invariant-loop-i : goal.invariant-loop-i
invariant-loop-i l =
    (l.i ≤ l.n)
    × ((length l.buf ≡ length l.initial.buf)
    × ((l.place ≤ l.at + 80 * l.i) × Stored l.initial.buf l.at (gather l.i (bytes_at (known_by l.t) l.list l.kind l.number)) l.place l.buf))
