-- `gossip_old::part_found`: nothing where no record was found; else the replies, and then the set.
use Rattle.index.proofs.Kit.{rules}
use Rattle.gossip_old.proofs.OldLaws.{parted_none, parted_both, found_kept, found_lent}
use Rattle.gossip_old.proofs.part_found.Goals as goal

pub returns-in_default : goal.returns-in_default
returns-in_default c = parted_none _ _ c.in_default.is

pub end-requires : goal.end-requires
end-requires c = found_kept _ c.requires c.in-Some.is

pub part-requires : goal.part-requires
part-requires c = search (found_kept, found_lent, rules)

pub returns : goal.returns
returns c = search (parted_both, rules)
