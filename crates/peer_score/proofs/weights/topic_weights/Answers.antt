use Rattle.peer_score.proofs.WeightLaws.{weighing_p2, weighing_p3b, weighing_p4}
use Rattle.peer_score.proofs.weights.topic_weights.Goals as goal

pub weights-requires : goal.weights-requires
weights-requires c = weighing_p2 _ c.requires

pub weights-requires-2 : goal.weights-requires-2
weights-requires-2 c = weighing_p3b _ c.requires

pub weights-requires-3 : goal.weights-requires-3
weights-requires-3 c = weighing_p4 _ c.requires

pub returns : goal.returns
returns c = record { p2 = c.weights.ensures; p3b = c.weights-2.ensures; p4 = c.weights-3.ensures }
