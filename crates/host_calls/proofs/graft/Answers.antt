-- `host_calls::graft` meets its contract. Assumes nothing.
use Rattle.rules.proofs.CountLaws.{few_actions}
use Rattle.host_calls.proofs.HostLaws.{hosts}
use Rattle.host_calls.proofs.graft.Goals as goal

pub code-requires : goal.code-requires
code-requires c = few_actions _ _ _ _ _ _ c.graft.ensures

pub returns : goal.returns
returns c = hosts _ c.graft.ensures _ c.code.ensures
