-- `peer_score::load_general`: five loaded numbers are the record of the rules.
-- Assumes nothing.
use Rattle.score.specs.Score.{score_params_in}
use Rattle.peer_score.proofs.load_general.Goals as goal

pub returns : goal.returns
unfolding score_params_in
returns c = cc
