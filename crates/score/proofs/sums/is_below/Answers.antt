-- `score::sums::is_below` meets its contract. Assumes nothing.
use mathlib.Core.Path.{refl}
use Rattle.score.proofs.sums.is_below.Goals as goal

pub returns : goal.returns
returns c = refl
