-- `peer_score::score_parts`: the parts of numbers that are loaded or lent, each of which is the state's.
-- Assumes nothing.
use Rattle.score.proofs.InputLaws.{slot_in}
use Rattle.score.proofs.ScoreLaws.{sharers_most, parts_ready, parts_done}
use Rattle.peer_score.proofs.score_parts.Goals as goal

pub topic_weights-weights-requires : goal.topic_weights-weights-requires
topic_weights-weights-requires c = c.requires.standing

pub sharers_of-sharers-requires : goal.sharers_of-sharers-requires
sharers_of-sharers-requires c = c.requires.standing.size

pub topics_at-topics-requires : goal.topics_at-topics-requires
topics_at-topics-requires c =
    let p = c.requires in
    record {
      at = record { standing = p.standing; slot = p.slot };
      weights = c.topic_weights-weights.ensures;
    }

pub load_general-requires : goal.load_general-requires
load_general-requires c = c.requires.standing.size

pub parts-requires : goal.parts-requires
parts-requires c =
    let p = c.requires in
    parts_ready _ _
    (slot_in _ p.standing.router _ p.slot)
    _ _ _ _
    p.peer
    c.load_general.ensures
    c.topics_at-topics.ensures.1
    (rw c.sharers_of-sharers.ensures (sharers_most _ _))

pub returns : goal.returns
returns c =
    let p = c.requires in (
      parts_done _ _
          (slot_in _ p.standing.router _ p.slot)
          _ _ _ _
          p.peer
          c.load_general.ensures
          _
          c.parts.ensures.0
          c.topics_at-topics.ensures.0
          c.sharers_of-sharers.ensures,
      c.parts.ensures.1,
    )
