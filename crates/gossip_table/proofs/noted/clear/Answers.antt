-- `gossip_table::noted::clear`: a note emptied, in its part of the array.
use borrow.Author.Rules.{rules}
use Rattle.gossip_table.proofs.NoteParts.{at_slot, clear_back}
use Rattle.gossip_table.proofs.noted.clear.Goals as goal

pub clear-requires : goal.clear-requires
clear-requires c = search at_slot

pub returns : goal.returns
returns c =
    clear_back c.args.gossip.now c.clear.new.cells _ c.requires.size (search rules) (search rules)
