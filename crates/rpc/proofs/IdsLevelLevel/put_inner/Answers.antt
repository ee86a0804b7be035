-- `put_inner` of this level meets its contract: an IDONTWANT has no inner messages. Assumes nothing.
use Rattle.rpc.proofs.ListLaws.{collects_no_inner}
use Rattle.rpc.proofs.IdsLevelLevel.put_inner.Goals as goal

pub returns : goal.returns
returns c = collects_no_inner _ _ _ _ _ _ _ _
