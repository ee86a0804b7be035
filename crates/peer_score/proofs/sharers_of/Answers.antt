-- `peer_score::sharers_of`: one count for each place.
-- Assumes nothing.
use Rattle.score.specs.Score.{sharers_of}
use Rattle.peer_score.proofs.sharers_of.Goals as goal

pub returns : goal.returns
unfolding sharers_of
returns c = λ i. record {
  first = c.sharing_at.ensures i;
  second = c.sharing_at-2.ensures i;
  third = c.sharing_at-3.ensures i;
  fourth = c.sharing_at-4.ensures i;
}
