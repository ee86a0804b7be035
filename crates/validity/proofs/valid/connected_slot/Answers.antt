-- `validity::valid::connected_slot`: as any slot, or the peer's record and its topics. Assumes nothing.
use mathlib.Core.Path.{ap, ◌∙◌, sym}
use Rattle.index.specs.Index.{every}
use Rattle.records.specs.declared.Peer.{Peer}
use Rattle.records.specs.Records.{topic_count}
use Rattle.layout.specs.View.{state_of}
use Rattle.validity.specs.Valid.{topic_ok_at}
use Rattle.validity.proofs.OrderLaws.{peer_fails, topics_are}
use Rattle.validity.proofs.valid.connected_slot.Goals as goal

pub connected_at-requires : goal.connected_at-requires
connected_at-requires c =
    let p = c.requires in
    (p.0, (p.1.0, (p.1.1.1.0, (p.1.1.1.1, (c.is_small.ensures c.if-not-is_small.false).ends))))

pub returns-then-not-connected_at : goal.returns-then-not-connected_at
returns-then-not-connected_at c = peer_fails _ _ (sym c.connected_at.ensures ∙ c.if-not-connected_at.true)

pub small_topics-requires : goal.small_topics-requires
small_topics-requires c =
    (c.requires.0, (c.requires.1.0, (c.requires.1.1.0, (c.is_small.ensures c.if-not-is_small.false, c.requires.1.1.1.0))))

pub returns : goal.returns
returns c =
    topics_are _ _ c.requires.1.1.1.1 (sym c.connected_at.ensures ∙ c.if-not-connected_at.false) _
    (c.small_topics.ensures
    ∙ ap (λ (p : Peer). every topic_count (topic_ok_at (state_of c.args.table.now) c.args.slot 1 p.explicit))
    c.load_peer-p.ensures.0)
