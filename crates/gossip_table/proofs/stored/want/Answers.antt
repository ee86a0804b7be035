-- `gossip_table::stored::want`: the stores are those in their part.
use Rattle.gossip_table.proofs.StoreParts.{want_fits, want_by}
use Rattle.gossip_table.proofs.stored.want.Goals as goal

pub want-requires : goal.want-requires
want-requires c = search want_fits

pub returns : goal.returns
returns c = want_by c.args.gossip.now _ _ _ _
    c.want.ensures
