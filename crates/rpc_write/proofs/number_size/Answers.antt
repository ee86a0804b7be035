-- `rpc_write::number_size` meets its contract. Assumes nothing.
use Rattle.rpc_write.proofs.WriteLaws.{size_one, size_two}
use Rattle.rpc_write.proofs.number_size.Goals as goal

pub returns-then-n-lt128 : goal.returns-then-n-lt128
returns-then-n-lt128 c = size_one _ c.if-n-lt128.true

pub returns-else-n-lt128 : goal.returns-else-n-lt128
returns-else-n-lt128 c = size_two _ c.if-n-lt128.false c.requires
