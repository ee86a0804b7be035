-- `rpc::id_number` meets its contract. Assumes nothing.
use Rattle.rpc.proofs.ListLaws.{number_here, number_past}
use Rattle.rpc.proofs.id_number.Goals as goal

pub returns-then-k-numbers : goal.returns-then-k-numbers
returns-then-k-numbers c = number_here _ _ _ c.in-Some.is

pub returns-else-k-numbers : goal.returns-else-k-numbers
returns-else-k-numbers c = number_past _ _ _ c.in-Some.is c.if-k-numbers.false
