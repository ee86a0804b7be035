-- `peer_score::load_param`: a topic's parameters are sixteen, behind the general nineteen.
-- Assumes nothing.
use Rattle.peer_score.proofs.load_param.Goals as goal

pub returns : goal.returns
returns c = c.load_magnitude.ensures
