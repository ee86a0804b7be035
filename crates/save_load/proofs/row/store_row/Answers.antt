-- `save_load::row::store_row`: the topics, then the peer. Assumes nothing.
use mathlib.Core.Path.{ap, ◌∙◌}
use Rattle.records.specs.Records.{State, set_peer}
use Rattle.saves.specs.Load.{loaded_peer}
use Rattle.save_load.specs.Store.{stored}
use Rattle.save_load.proofs.StoreLaws.{peer_fits}
use Rattle.save_load.proofs.row.store_row.Goals as goal

pub store_topics-requires : goal.store_topics-requires
store_topics-requires c = (c.requires.0, (c.requires.1.0, c.requires.1.1.1))

pub loaded_peer-requires : goal.loaded_peer-requires
loaded_peer-requires c = (c.requires.1.1.0, c.requires.1.1.1)

pub store_peer-requires : goal.store_peer-requires
store_peer-requires c = (
  c.store_topics.auto.table ∙ c.requires.0,
  (c.requires.1.0, peer_fits _ c.requires.1.1.1 _ _ c.loaded_peer.ensures),
)

pub shape_of-table : goal.shape_of-table
shape_of-table c = c.store_peer.auto.cells ∙ c.store_topics.auto.table

pub returns : goal.returns
unfolding stored
returns c =
    let a = c.args in
    c.store_peer.ensures
    ∙ ap (set_peer _ a.slot) c.loaded_peer.ensures
    ∙ ap (λ (v : State). set_peer v a.slot (loaded_peer a.clock a.row.now))
    c.store_topics.ensures
