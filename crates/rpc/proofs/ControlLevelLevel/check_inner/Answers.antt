-- `check_inner` of this level meets its contract. Assumes nothing.
use Rattle.rpc.proofs.CheckLaws.{counts_ids}
use Rattle.rpc.proofs.ControlLevelLevel.check_inner.Goals as goal

pub returns : goal.returns
returns c = counts_ids _ _ _ _ c.check_message.ensures
