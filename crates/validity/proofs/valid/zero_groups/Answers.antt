use mathlib.Core.Path.{refl}
use Rattle.validity.specs.Valid.{zero_groups}
use Rattle.validity.proofs.valid.zero_groups.Goals as goal

pub returns : goal.returns
unfolding zero_groups
returns c = refl
