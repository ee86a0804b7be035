-- `heartbeat::scores::score_others`: a slot is a member's, connected, retained or empty.
use Rattle.index.proofs.Kit.{ap, ◌∙◌}
use Rattle.words.specs.Words.{bits_of}
use Rattle.sets.specs.Sets.{except}
use Rattle.validity.proofs.ValidLaws.{valid_facts}
use Rattle.heartbeat.proofs.HeightLaws.{others_taken}
use Rattle.heartbeat.proofs.scores.score_others.Goals as goal

pub load_connected-requires : goal.load_connected-requires
load_connected-requires c = c.requires.taking.standing.size

pub members-requires : goal.members-requires
members-requires c = let p = c.requires in record { size = p.taking.standing.size; topic = p.topic }

pub score_slots-requires : goal.score_slots-requires
score_slots-requires c = c.requires.taking

pub load_retained-retained-requires : goal.load_retained-retained-requires
load_retained-retained-requires c = c.requires.taking.standing.size

pub score_slots-requires-2 : goal.score_slots-requires-2
score_slots-requires-2 c =
    let p = c.requires.taking in
    record { standing = p.standing; buckets = p.buckets; size = c.score_slots.ensures.size ∙ p.size }

pub shape_of-heights : goal.shape_of-heights
shape_of-heights c = c.score_slots-2.ensures.size
    ∙ c.score_slots.ensures.size

pub returns : goal.returns
returns c =
    let n = c.load_connected in
    let r = c.load_retained-retained.ensures in
    let p = c.requires in
    others_taken _ _ _ _ n.ensures.0 r.0 n.ensures.1 r.1
    (λ s h. ((valid_facts _ p.taking.standing.router).peer s h).status) _ _ _ _
    (c.except-connected.ensures
    ∙ ap (except (bits_of n.result))
    c.members.ensures)
    p.taking.size
    p.members
    p.empty
    c.score_slots.ensures
    c.score_slots-2.ensures
