-- `host_calls::join` meets its contract. Assumes nothing.
use Rattle.rules.proofs.CountLaws.{few_actions}
use Rattle.host_calls.proofs.HostLaws.{hosts}
use Rattle.host_calls.proofs.join.Goals as goal

pub code-requires : goal.code-requires
code-requires c = few_actions _ _ _ _ _ _ c.join.ensures

pub returns : goal.returns
returns c = hosts _ c.join.ensures _ c.code.ensures
