-- `slot_words::flags::topic_flags`: each test on whole words is one on every slot's bit.
use Rattle.slot_words.proofs.FlagLaws.{topic_told}
use Rattle.slot_words.proofs.flags.topic_flags.Goals as goal

pub returns : goal.returns
returns c =
    topic_told _ _ _ c.load_members-members.ensures.1 _ _ _ _ _ _ _ _ c.load_connected-connected.ensures.1
    c.load_explicit-explicit.ensures.1 c.load_subscribed-subscribed.ensures.1
    c.outside.ensures c.outside-2.ensures
    c.common.ensures c.any.ensures c.load_joined-joined.ensures
