-- `rpc_write::name_size` meets its contract. Assumes nothing.
use Rattle.rpc_write.proofs.WriteLaws.{size_is, size_long, size_far}
use Rattle.rpc_write.proofs.name_size.Goals as goal

pub returns-then-size-le-NAME_BYTES : goal.returns-then-size-le-NAME_BYTES
returns-then-size-le-NAME_BYTES c = size_is _ _ c.if-topic-lt-TOPICS.true _ c.from-size.ensures c.if-size-le-NAME_BYTES.true

pub returns-else-size-le-NAME_BYTES : goal.returns-else-size-le-NAME_BYTES
returns-else-size-le-NAME_BYTES c = size_long _ _ c.if-topic-lt-TOPICS.true _ c.from-size.ensures c.if-size-le-NAME_BYTES.false

pub returns-else-topic-lt-TOPICS : goal.returns-else-topic-lt-TOPICS
returns-else-topic-lt-TOPICS c = size_far _ _ c.if-topic-lt-TOPICS.false
