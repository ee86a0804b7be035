-- `heartbeat::stages::stages`: a mesh that is still by its members' scores, or the five steps.
use Rattle.index.proofs.Kit.{sym, ap, ◌∙◌}
use mathlib.Core.Bool.{Bool}
use mathlib.Core.List.{List}
use Rattle.sets.specs.Sets.{at}
use Rattle.peer_score.proofs.BucketLaws.{tells_none}
use Rattle.heartbeat.proofs.HeightLaws.{still_stages, empty_kept}
use Rattle.heartbeat.proofs.GraftLaws.{first_is, first_scores}
use Rattle.heartbeat.proofs.stages.stages.Goals as goal

pub count_groups-requires : goal.count_groups-requires
count_groups-requires c = (c.requires.standing, tells_none)

pub members-all-requires : goal.members-all-requires
members-all-requires c = let p = c.requires in
    record { size = p.standing.size; topic = p.topic }

pub score_slots-requires : goal.score_slots-requires
score_slots-requires c =
    let p = c.requires in
    record { standing = p.standing; buckets = c.count_groups.ensures; size = p.size }

pub at_least-requires : goal.at_least-requires
at_least-requires c = c.score_slots.ensures.size
    ∙ c.requires.size

pub degrees-requires : goal.degrees-requires
degrees-requires c = c.requires.standing

pub outbound-requires : goal.outbound-requires
outbound-requires c = c.requires.standing.size

pub is_still-requires : goal.is_still-requires
is_still-requires c = c.score_slots.ensures.size
    ∙ c.requires.size

pub shape_of-heights-then-is_still : goal.shape_of-heights-then-is_still
shape_of-heights-then-is_still c = c.score_slots.ensures.size

pub returns-then-is_still : goal.returns-then-is_still
returns-then-is_still c =
    let t = c.score_slots.ensures in
    let m = c.members-all.ensures in (
      still_stages _ _ _ _ _ _ _ _ _ _ _ _ m
          (t.size ∙ c.requires.size) t.taken
          c.at_least.ensures
          c.both-first.ensures
          c.degrees.ensures c.outbound.ensures
          (sym c.is_still.ensures ∙ c.if-is_still.true) c.still.ensures,
      λ s h q. t.taken s h (ap (λ (x : List Bool). at x s) m ∙ q),
    )

pub few_stages-requires : goal.few_stages-requires
few_stages-requires c =
    let p = c.requires in
    let t = c.score_slots.ensures in
    let m = c.members-all.ensures in
    record {
      partial = record {
        taking = record {
          standing = p.standing;
          buckets = c.count_groups.ensures;
          size = t.size ∙ p.size;
        };
        topic = p.topic;
        members = λ s h q. t.taken s h (ap (λ (x : List Bool). at x s) m ∙ q);
        empty = empty_kept _ _ _ _ t p.empty;
      };
      mesh = first_is _ _ _ _ _ _ _ _ _ m (t.size ∙ p.size) t.taken
          c.at_least.ensures
          c.both-first.ensures;
      scores = first_scores _ _ _ _ _ _ t c.both-first.ensures;
    }

pub shape_of-heights : goal.shape_of-heights
shape_of-heights c = c.few_stages.auto.heights
    ∙ c.score_slots.ensures.size

pub returns : goal.returns
returns c = c.few_stages.ensures
