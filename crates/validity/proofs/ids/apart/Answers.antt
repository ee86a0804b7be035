use mathlib.Core.Path.{refl}
use Rattle.validity.specs.Valid.{apart}
use Rattle.validity.proofs.ids.apart.Goals as goal

pub returns : goal.returns
unfolding apart
returns c = refl
