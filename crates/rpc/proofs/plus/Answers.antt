-- `rpc::plus` meets its contract. Assumes nothing.
use Rattle.rpc.proofs.KindLaws.{plus_yes, plus_no}
use Rattle.rpc.proofs.plus.Goals as goal

pub returns-then-flag : goal.returns-then-flag
returns-then-flag c = plus_yes _ _ c.if-flag.true

pub returns-else-flag : goal.returns-else-flag
returns-else-flag c = plus_no _ _ c.if-flag.false
