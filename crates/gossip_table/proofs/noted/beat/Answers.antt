-- `gossip_table::noted::beat`: every note older, in its part of the array.
use borrow.Author.Rules.{rules}
use Rattle.gossip_table.proofs.NoteParts.{all_fit, beat_back}
use Rattle.gossip_table.proofs.noted.beat.Goals as goal

pub beat-requires : goal.beat-requires
beat-requires c = search all_fit

pub returns : goal.returns
returns c =
    beat_back c.args.gossip.now c.beat.new.cells c.requires.size (search rules) (search rules)
