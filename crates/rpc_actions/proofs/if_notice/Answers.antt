-- `rpc_actions::if_notice` meets its contract. Assumes nothing.
use Rattle.rpc_actions.proofs.ActionLaws.{notice_yes, notice_no}
use Rattle.rpc_actions.proofs.if_notice.Goals as goal

pub returns-then-kind-eq-IDONTWANT : goal.returns-then-kind-eq-IDONTWANT
returns-then-kind-eq-IDONTWANT c = notice_yes _ _ _ c.if-kind-eq-IDONTWANT.true

pub returns-else-kind-eq-IDONTWANT : goal.returns-else-kind-eq-IDONTWANT
returns-else-kind-eq-IDONTWANT c = notice_no _ _ _ c.if-kind-eq-IDONTWANT.false
