-- `host_calls::prune` meets its contract. Assumes nothing.
use Rattle.rules.proofs.CountLaws.{few_actions}
use Rattle.host_calls.proofs.HostLaws.{hosts}
use Rattle.host_calls.proofs.prune.Goals as goal

pub code-requires : goal.code-requires
code-requires c = few_actions _ _ _ _ _ _ c.prune.ensures

pub returns : goal.returns
returns c = hosts _ c.prune.ensures _ c.code.ensures
