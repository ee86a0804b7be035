-- `rpc_write::put_number` meets its contract. Assumes nothing.
use Rattle.rpc_write.proofs.WriteLaws.{number_one, number_two}
use Rattle.rpc_write.proofs.put_number.Goals as goal

pub returns-then-n-lt128 : goal.returns-then-n-lt128
returns-then-n-lt128 c = number_one _ _ _ _ c.if-n-lt128.true c.put.ensures

pub returns : goal.returns
returns c = number_two _ _ _ _ _ c.if-n-lt128.false
    c.requires.0
    c.put-2.ensures c.put-3.ensures
