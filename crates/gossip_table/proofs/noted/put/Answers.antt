-- `gossip_table::noted::put`: what the notes hold after it, in its part of the array.
use borrow.Author.Rules.{rules}
use Rattle.gossip_table.proofs.NoteParts.{put_fits, put_back}
use Rattle.gossip_table.proofs.noted.put.Goals as goal

pub put-requires : goal.put-requires
put-requires c = search put_fits

pub returns : goal.returns
returns c =
    put_back c.args.gossip.now c.put.new.cells _ c.requires.fine.size (search rules) _ (search rules)
