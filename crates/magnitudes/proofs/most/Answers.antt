use mathlib.Core.Path.{refl}
use Rattle.magnitudes.specs.Sizes.{most}
use Rattle.magnitudes.proofs.most.Goals as goal

pub returns : goal.returns
unfolding most
returns c = refl
