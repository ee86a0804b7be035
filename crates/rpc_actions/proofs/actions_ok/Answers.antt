use Rattle.index.proofs.Kit.{arith, every_none, every_more}
use Rattle.index.proofs.Flags.{flags}
use Rattle.rpc_actions.proofs.ActionLaws.{many, uneven, bad, fine}
use Rattle.rpc_actions.proofs.actions_ok.Goals as goal

pub returns-then-n-gt-MOST_ACTIONS : goal.returns-then-n-gt-MOST_ACTIONS
returns-then-n-gt-MOST_ACTIONS c = many _ _ c.if-n-gt-MOST_ACTIONS.true

pub returns-then-actions-n : goal.returns-then-actions-n
returns-then-actions-n c = uneven _ _ c.if-n-gt-MOST_ACTIONS.false c.if-actions-n.true

pub loop-i-init : goal.loop-i-init
loop-i-init c = (omega arith, every_none _)

pub returns-then-not-action_ok : goal.returns-then-not-action_ok
returns-then-not-action_ok c = search (bad, flags)

pub loop-i-preserved : goal.loop-i-preserved
loop-i-preserved c = (omega arith, search (every_more, flags))

pub returns : goal.returns
returns c = search fine
