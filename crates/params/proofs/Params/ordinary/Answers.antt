-- `params::ordinary` meets its contract. Assumes nothing.
use mathlib.Core.Path.{refl}
use Rattle.params.specs.Ordinary.{ordinary_numbers}
use Rattle.params.proofs.Params.ordinary.Goals as goal

pub returns : goal.returns
unfolding ordinary_numbers
returns c = refl
