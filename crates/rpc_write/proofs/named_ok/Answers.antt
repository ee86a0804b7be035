-- `rpc_write::named_ok` meets its contract. Assumes nothing.
use Rattle.rpc_write.proofs.WriteLaws.{named_is}
use Rattle.rpc_write.proofs.named_ok.Goals as goal

pub returns : goal.returns
returns c = named_is _ _ _ _ _ c.name_size-size.ensures.0
