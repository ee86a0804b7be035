-- `rpc_write::put` meets its contract. Assumes nothing.
use Rattle.index.proofs.Kit.{sym}
use lib.Seq.{set_out}
use Rattle.rpc_write.proofs.put.Goals as goal

pub returns-else-i-buf : goal.returns-else-i-buf
returns-else-i-buf c = sym (set_out _ _ _ c.if-i-buf.false)
