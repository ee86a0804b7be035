-- `score::sums::is_negative` meets its contract. Assumes nothing.
use mathlib.Core.Path.{refl}
use Rattle.score.proofs.sums.is_negative.Goals as goal

pub returns : goal.returns
returns c = refl
