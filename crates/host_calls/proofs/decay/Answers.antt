-- `host_calls::decay` meets its contract. Assumes nothing.
use Rattle.rules.proofs.CountLaws.{few_actions}
use Rattle.host_calls.proofs.HostLaws.{hosts}
use Rattle.host_calls.proofs.decay.Goals as goal

pub code-requires : goal.code-requires
code-requires c = few_actions _ _ _ _ _ _ c.decay.ensures

pub returns : goal.returns
returns c = hosts _ c.decay.ensures _ c.code.ensures
