-- `host_calls::disconnect` meets its contract. Assumes nothing.
use Rattle.rules.proofs.CountLaws.{few_actions}
use Rattle.host_calls.proofs.HostLaws.{hosts}
use Rattle.host_calls.proofs.disconnect.Goals as goal

pub code-requires : goal.code-requires
code-requires c = few_actions _ _ _ _ _ _ c.disconnect.ensures

pub returns : goal.returns
returns c = hosts _ c.disconnect.ensures _ c.code.ensures
