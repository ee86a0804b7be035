use mathlib.Core.Path.{refl}
use Rattle.magnitudes.specs.Sizes.{least}
use Rattle.magnitudes.proofs.least.Goals as goal

pub returns : goal.returns
unfolding least
returns c = refl
