-- `peer_score::weights::share_at`: a member's share of what is loaded, another's of the weights.
use native.Mathlib.Omega.{arith}
use Rattle.score.proofs.InputLaws.{slot_in}
use Rattle.score.proofs.SlotLaws.{share_ready, share_is_at}
use Rattle.peer_score.proofs.WeightLaws.{outside_ready, outside_is}
use Rattle.peer_score.proofs.weights.share_at.Goals as goal

pub overflow_mul-slot : goal.overflow_mul-slot
overflow_mul-slot c = let p = c.requires.place in omega (arith, p.slot)

pub overflow_add-slot : goal.overflow_add-slot
overflow_add-slot c = let p = c.requires.place in omega (arith, p.slot, p.topic)

pub load_topic-r-requires : goal.load_topic-r-requires
load_topic-r-requires c = let p = c.requires.place in (p.standing.size, omega (arith, p.slot, p.topic))

pub share-requires : goal.share-requires
share-requires c =
    let p = c.requires.place in
    share_ready _ _ _ _ _ (slot_in _ p.standing.router _ p.slot) p.topic c.load_params.ensures c.load_topic-r.ensures.0

pub returns-then-r-eq1 : goal.returns-then-r-eq1
returns-then-r-eq1 c = (
  share_is_at _ _ _ _ _ _ c.share.ensures.0 c.load_params.ensures c.load_topic-r.ensures.0,
  c.share.ensures.1,
)

pub bounds-weights-t : goal.bounds-weights-t
bounds-weights-t c = let p = c.requires.place in omega (arith, p.topic)

pub bounds-weights-t-2 : goal.bounds-weights-t-2
bounds-weights-t-2 c = let p = c.requires.place in omega (arith, p.topic)

pub bounds-weights-t-3 : goal.bounds-weights-t-3
bounds-weights-t-3 c = let p = c.requires.place in omega (arith, p.topic)

pub outside-requires : goal.outside-requires
outside-requires c =
    let q = c.requires in
    let p = q.place in
    outside_ready _ _ _ (slot_in _ p.standing.router _ p.slot) p.topic _ q.weights _ c.load_topic-r.ensures.0

pub returns : goal.returns
returns c =
    let q = c.requires in
    let p = q.place in (
      outside_is _ _ _ (slot_in _ p.standing.router _ p.slot) p.topic _ q.weights _ c.load_topic-r.ensures.0 _
          c.if-r-eq1.false c.outside.ensures.0,
      c.outside.ensures.1,
    )
