-- `rpc_write::value_size` meets its contract. Assumes nothing.
use Rattle.rpc_write.proofs.WriteLaws.{value_zero, value_size}
use Rattle.rpc_write.proofs.value_size.Goals as goal

pub returns-then-v-eq0 : goal.returns-then-v-eq0
returns-then-v-eq0 c = value_zero _ _ c.if-v-eq0.true

pub returns : goal.returns
returns c = value_size _ _ _ _ c.if-v-eq0.false c.number_size.ensures c.number_size-2.ensures
