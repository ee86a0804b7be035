-- `rpc::fill` meets its contract. Assumes nothing.
use Rattle.index.proofs.Kit.{refl}
use Rattle.rpc.proofs.ReadLaws.{fills_none, fills_all}
use Rattle.rpc.proofs.fill.Goals as goal

pub returns-then-all-gt0 : goal.returns-then-all-gt0
returns-then-all-gt0 c = fills_all _ _ _ _ _ _ _ _ refl c.put_message.ensures

pub returns-else-all-gt0 : goal.returns-else-all-gt0
returns-else-all-gt0 c = fills_none _ _ _ _ _ refl c.if-all-gt0.false
