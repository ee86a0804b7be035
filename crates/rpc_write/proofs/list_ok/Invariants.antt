-- `rpc_write::list_ok` meets its contract: the loop's invariant: the first i entries are accepted. Assumes nothing.
use Rattle.index.proofs.Kit.{◌≤◌, true, every, ◌≡◌}
use Rattle.rpc_write.specs.Tables.{known_by}
use Rattle.rpc_write.proofs.WriteLaws.{ok_at}
use Rattle.rpc_write.proofs.list_ok.Given as goal

abbrev pub invariant-loop-i : goal.invariant-loop-i
invariant-loop-i l = (l.i ≤ l.n) × (every l.i (ok_at (known_by l.t) l.list) ≡ true)
