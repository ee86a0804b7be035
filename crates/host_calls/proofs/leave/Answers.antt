-- `host_calls::leave` meets its contract. Assumes nothing.
use Rattle.rules.proofs.CountLaws.{few_actions}
use Rattle.host_calls.proofs.HostLaws.{hosts}
use Rattle.host_calls.proofs.leave.Goals as goal

pub code-requires : goal.code-requires
code-requires c = few_actions _ _ _ _ _ _ c.leave.ensures

pub returns : goal.returns
returns c = hosts _ c.leave.ensures _ c.code.ensures
