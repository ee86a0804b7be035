-- `rpc_actions::action_ok` meets its contract. Assumes nothing.
use Rattle.rpc_actions.proofs.ActionLaws.{one_is}
use Rattle.rpc_actions.proofs.action_ok.Goals as goal

pub returns : goal.returns
returns c = one_is _ _ _ _ c.from-k.ensures
