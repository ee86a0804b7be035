-- `gossip_table::stored::empty`: the store, and then the replies with what only it had.
use Rattle.index.proofs.Kit.{ap, ◌∙◌}
use Rattle.gossip.specs.Notes.{forget}
use Rattle.gossip_table.proofs.stored.empty.Goals as goal

pub forget-requires : goal.forget-requires
forget-requires c = c.empty_store.ensures.1

pub returns : goal.returns
returns c =
    c.forget.ensures
    ∙ ap forget c.empty_store.ensures.0
