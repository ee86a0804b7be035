-- `put_inner` of this level meets its contract. Assumes nothing.
use Rattle.rpc.proofs.ListLaws.{collects_ids}
use Rattle.rpc.proofs.ControlLevelLevel.put_inner.Goals as goal

pub returns : goal.returns
returns c = collects_ids _ _ _ _ _ _ _ _ c.put_message.ensures
