-- `gossip_table::noted::count_ihave`: one more in the count of a note, in its part of the array.
use borrow.Author.Rules.{rules}
use Rattle.gossip_table.proofs.NoteParts.{ihave_fits, ihave_back}
use Rattle.gossip_table.proofs.noted.count_ihave.Goals as goal

pub count_ihave-requires : goal.count_ihave-requires
count_ihave-requires c = search ihave_fits

pub returns : goal.returns
returns c =
    ihave_back c.args.gossip.now c.count_ihave.new.cells _ c.requires.fine.size (search rules) (search rules)
