-- `check_inner` of this level meets its contract: an IDONTWANT has no inner messages. Assumes nothing.
use Rattle.rpc.proofs.CheckLaws.{counts_none}
use Rattle.rpc.proofs.IdsLevelLevel.check_inner.Goals as goal

pub returns : goal.returns
returns c = counts_none _ _ _ _
