-- `peer_score::is_idle`: the same tests, bracketed alike.
-- Assumes nothing.
use mathlib.Core.Path.{refl}
use Rattle.peer_score.specs.Idle.{is_idle}
use Rattle.peer_score.proofs.is_idle.Goals as goal

pub returns : goal.returns
unfolding is_idle
returns c = refl
