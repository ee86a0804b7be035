-- `slot_words::flags::peer_flags`: each test on whole words is one on every slot's bit.
use Rattle.slot_words.proofs.FlagLaws.{peers_told}
use Rattle.slot_words.proofs.flags.peer_flags.Goals as goal

pub returns : goal.returns
returns c =
    peers_told _ _ c.held-held.ensures.1 _ _ _ _ _ _ _ _ _ _ _ _ _ _ c.load_connected-connected.ensures.1
    c.load_retained-retained.ensures.1
    c.load_explicit-explicit.ensures.1 c.load_outbound-outbound.ensures.1
    c.load_version-version.ensures.1
    c.load_version_high-high.ensures.1 c.common.ensures c.common-2.ensures
    c.outside.ensures c.outside-2.ensures
    c.outside-3.ensures c.outside-4.ensures c.past.ensures
