-- `put_inner` of this level meets its contract. Assumes nothing.
use Rattle.rpc.proofs.ListLaws.{collects_control}
use Rattle.rpc.proofs.RpcLevelLevel.put_inner.Goals as goal

pub returns : goal.returns
returns c = collects_control _ _ _ _ _ _ _ _ c.put_message.ensures
