-- `rpc_write::entry_ok` meets its contract. Assumes nothing.
use Rattle.rpc_write.proofs.WriteLaws.{entry_is}
use Rattle.rpc_write.proofs.entry_ok.Goals as goal

pub returns : goal.returns
returns c = entry_is _ _ _ _ _ _ _ c.named_ok.ensures c.notice_ok.ensures _
