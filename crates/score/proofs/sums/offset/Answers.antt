-- `score::sums::offset` meets its contract. Assumes nothing.
use mathlib.Core.Path.{refl}
use Rattle.score.proofs.sums.offset.Goals as goal

pub returns : goal.returns
returns c = refl
