-- `heartbeat::stages::few_stages`: step 2 keeps the members' scores, so that all scores can still be taken where step 3 has to choose.
use mathlib.Core.Path.{◌∙◌}
use Rattle.heartbeat.proofs.GraftLaws.{grafting_on, partial_on, few_of}
use Rattle.heartbeat.proofs.stages.few_stages.Goals as goal

pub topic_weights-weights-requires : goal.topic_weights-weights-requires
topic_weights-weights-requires c = c.requires.partial.taking.standing

pub second-m2-requires : goal.second-m2-requires
second-m2-requires c =
    let p = c.requires.partial in
    record {
      taking = p.taking;
      weights = c.topic_weights-weights.ensures;
      topic = p.topic;
    }

pub degrees-t-requires : goal.degrees-t-requires
degrees-t-requires c = c.requires.partial.taking.standing

pub all_stages-requires : goal.all_stages-requires
all_stages-requires c =
    let s = c.second-m2.ensures.0 in
    partial_on _ _ _ _ _ s.size s.kept
    c.requires.partial

pub shape_of-heights-then-t-size : goal.shape_of-heights-then-t-size
shape_of-heights-then-t-size c = c.all_stages.auto.heights
    ∙ c.second-m2.ensures.0.size

pub returns-then-t-size : goal.returns-then-t-size
returns-then-t-size c = c.all_stages.ensures

pub last_stages-requires : goal.last_stages-requires
last_stages-requires c =
    let b = c.requires in
    let p = b.partial in
    let s = c.second-m2.ensures in
    record {
      grafting = grafting_on _ _ _ _ _ _ s.0.size
          (record {
            taking = p.taking;
            weights = c.topic_weights-weights.ensures;
            topic = p.topic;
          });
      halfway = record {
        first = b.mesh;
        second = s.1
            c.args.ask;
        few = few_of _ _ _ _ c.degrees-t.ensures
            c.size.ensures c.if-t-size.false;
        scores = s.0.scored b.scores;
      };
    }

pub shape_of-heights : goal.shape_of-heights
shape_of-heights c = c.last_stages.auto.heights
    ∙ c.second-m2.ensures.0.size

pub returns : goal.returns
returns c =
    let p = c.requires.partial in
    let s = c.second-m2.ensures.0 in
    let l = c.last_stages.ensures in
    (l.0, λ k h q. l.1 k h (s.kept k h (p.members k h q)))
