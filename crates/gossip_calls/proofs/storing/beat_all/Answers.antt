-- `gossip_calls::storing::beat_all`: the notes, then the stores, then the replies with what no topic stores any more.
use borrow.Author.Rules.{rules}
use Rattle.gossip_calls.proofs.StoreLaws.{notes_keep, beat_is}
use Rattle.gossip_calls.proofs.storing.beat_all.Goals as goal

pub move_on-requires : goal.move_on-requires
move_on-requires c =
    notes_keep _ _ _ c.requires (search rules) c.beat.ensures

pub returns : goal.returns
returns c = search beat_is
