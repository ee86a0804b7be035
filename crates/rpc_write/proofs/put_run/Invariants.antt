-- `rpc_write::put_run` meets its contract: the loop copies what fits; what lies past the end is not stored. Assumes nothing.
use Rattle.index.proofs.Kit.{◌≤◌}
use Rattle.rpc_write.proofs.WriteLaws.{Copied}
use Rattle.rpc_write.proofs.put_run.Given as goal

abbrev pub invariant-loop-i : goal.invariant-loop-i
invariant-loop-i l = (l.i ≤ l.n) × Copied l.src l.start l.initial.buf l.at l.i l.buf
