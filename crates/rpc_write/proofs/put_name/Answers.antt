-- `rpc_write::put_name` meets its contract; a topic without a name writes nothing. Assumes nothing.
use Rattle.index.proofs.Kit.{arith}
use Rattle.rpc_write.proofs.WriteLaws.{name_far, name_run}
use Rattle.rpc_write.proofs.put_name.Goals as goal

pub returns-then-topic-ge-TOPICS : goal.returns-then-topic-ge-TOPICS
returns-then-topic-ge-TOPICS c = name_far _ _ _ _ c.if-topic-ge-TOPICS.true

pub put_run-requires : goal.put_run-requires
put_run-requires c = (omega (arith, c.name_size.ensures.1), (c.name_size.ensures.1, omega arith))

pub returns : goal.returns
returns c = name_run _ _ _ _ _ _ _ c.name_size.ensures c.put_run.ensures
