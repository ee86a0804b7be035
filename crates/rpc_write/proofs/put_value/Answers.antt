-- `rpc_write::put_value` meets its contract. Assumes nothing.
use Rattle.rpc_write.proofs.WriteLaws.{value_none, value_some}
use Rattle.rpc_write.proofs.put_value.Goals as goal

pub returns-then-value-eq0 : goal.returns-then-value-eq0
returns-then-value-eq0 c = value_none _ _ _ _ c.if-value-eq0.true

pub returns : goal.returns
returns c = value_some _ _ _ _ _ _ _ _ c.if-value-eq0.false
    c.put_number-a.ensures c.put_number.ensures
