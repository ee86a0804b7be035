-- Hubs on two cables, by computation.
-- Assumes nothing.
use mathlib.Core.Path.{refl}
use Rattle.index.specs.Index.{every, count}
use Rattle.records.specs.Records.{code_in, peer_in, topic_in, holds_group}
use Rattle.score.specs.Parts.{part1_of, part3_of, crowd_of}
use Rattle.score.specs.Formula.{topic_sum, all_topics, bounded, why_of}
use Rattle.score.specs.Score.{topic_params_in, topic_score, shares_group, sharing, sharing_at, sharers_of, why_in}
use Rattle.rules.specs.Calls.{groups_ok, groups_of}
use Rattle.examples.specs.Cables.{cabled, cables, Cables}

pub on_two_cables : Cables
unfolding cabled cables groups_ok groups_of every count code_in peer_in topic_in holds_group part1_of part3_of crowd_of topic_sum all_topics bounded
    why_of topic_params_in topic_score shares_group sharing sharing_at sharers_of why_in
on_two_cables =
    record {
      two = refl;
      four = refl;
      none = refl;
      five = refl;
      repeated = refl;
      unsorted = refl;
      wide = refl;
      held = refl;
      fives = refl;
      nines = refl;
      twelves = refl;
      both = refl;
      first = refl;
      second = refl;
      alone = refl;
    }
