-- `peer_score::weights::weights`: the loop builds the array from the front.
use Rattle.index.proofs.Kit.{◌*◌}
use Rattle.index.proofs.Lists.{Built}
use Rattle.limits.specs.Limits.{place as topicPlace}
use Rattle.records.specs.Records.{topic_count}
use Rattle.records.specs.Parameters.{weight_at}
use Rattle.layout.specs.View.{state_of}
use Rattle.score.specs.Score.{magnitude_in}
use Rattle.peer_score.proofs.weights.weights.Given as goal

abbrev pub invariant-loop-t : goal.invariant-loop-t
invariant-loop-t l =
    Built 0 (λ k. magnitude_in (state_of l.table) (topicPlace k weight_at) * magnitude_in (state_of l.table) (topicPlace k l.j)) topic_count l.t l.r
