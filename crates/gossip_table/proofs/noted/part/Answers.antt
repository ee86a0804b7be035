-- `gossip_table::noted::part`: a set emptied, in its part of the array.
use borrow.Author.Rules.{rules}
use Rattle.gossip_table.proofs.NoteParts.{at_slot, part_back}
use Rattle.gossip_table.proofs.noted.part.Goals as goal

pub part-requires : goal.part-requires
part-requires c = search at_slot

pub returns : goal.returns
returns c =
    part_back c.args.gossip.now c.part.new.cells _ c.requires.size (search rules) (search rules)
