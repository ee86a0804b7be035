-- `peer_score::buckets::empty_score`: the parts of a record of zeros, which every empty slot's is (`empty_scores`).
use Rattle.peer_score.proofs.BucketLaws.{empty_ready, empty_scores}
use Rattle.peer_score.proofs.buckets.empty_score.Goals as goal

pub parts-requires : goal.parts-requires
parts-requires c = empty_ready _ c.requires.router _ c.load_general.ensures

pub returns : goal.returns
returns c =
    record {
      range = c.total.ensures.1;
      score = λ s h e.
          empty_scores _ c.requires.router s h e _ _ _ c.load_general.ensures c.parts.ensures.0
          c.total.ensures.0;
    }
