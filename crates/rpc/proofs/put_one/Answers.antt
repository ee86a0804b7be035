-- `rpc::put_one` meets its contract. Assumes nothing.
use Rattle.rpc.proofs.ListLaws.{entry_puts}
use Rattle.rpc.proofs.TopicLaws.{topic_is}
use Rattle.rpc.proofs.put_one.Goals as goal

pub returns : goal.returns
returns c =
    let h = c.held_in-h.ensures in
    let t = topic_is _ _ _ _ _ _ c.topic_named-topic.ensures c.topic_number.ensures in
    let v = c.value_of.ensures in
    let o = c.put_entry.ensures in
    entry_puts _ _ _ _ _ _ _ _ _ _ _ h t v o
