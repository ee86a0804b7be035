-- `check_inner` of this level meets its contract. Assumes nothing.
use Rattle.rpc.proofs.CheckLaws.{counts_control}
use Rattle.rpc.proofs.RpcLevelLevel.check_inner.Goals as goal

pub returns : goal.returns
returns c = counts_control _ _ _ _ c.check_message.ensures
