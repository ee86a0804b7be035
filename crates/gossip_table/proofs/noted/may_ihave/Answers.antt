-- `gossip_table::noted::may_ihave`: the note is the one in its part.
use borrow.Author.Rules.{rules}
use Rattle.gossip_table.proofs.NoteParts.{fine_slot, ihave_by}
use Rattle.gossip_table.proofs.noted.may_ihave.Goals as goal

pub load_ihaves-requires : goal.load_ihaves-requires
load_ihaves-requires c = search fine_slot

pub returns : goal.returns
returns c = search (ihave_by, rules)
