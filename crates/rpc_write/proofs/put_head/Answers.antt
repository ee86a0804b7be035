-- `rpc_write::put_head` meets its contract. Assumes nothing.
use Rattle.rpc_write.proofs.WriteLaws.{head_stored}
use Rattle.rpc_write.proofs.put_head.Goals as goal

pub returns : goal.returns
returns c = head_stored _ _ _ _ _ _ _ _ c.put_number-a.ensures
    c.put_number.ensures
