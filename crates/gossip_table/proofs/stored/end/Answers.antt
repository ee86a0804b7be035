-- `gossip_table::stored::end`: the counts of a slot, in their part of the array.
use borrow.Author.Rules.{rules}
use mathlib.Core.Path.{◌∙◌}
use Rattle.gossip.specs.Notes.{ended}
use Rattle.gossip_table.proofs.StoreParts.{replies_size, slot_kept, replies_back}
use Rattle.gossip_table.proofs.stored.end.Goals as goal

pub end-requires : goal.end-requires
end-requires c = search slot_kept

pub returns : goal.returns
returns c =
    let g = c.args.gossip.now in
    let l = c.end.new.cells in
    let size = c.requires.kept.size in
    replies_back g l (ended _) size (c.end.auto.cells ∙ replies_size g size) (search rules)
