use mathlib.Core.Path.{refl}
use Rattle.index.specs.Index.{every}
use Rattle.validity.specs.Valid.{ends_up_to}
use Rattle.validity.proofs.valid.ends_up_to.Goals as goal

pub returns : goal.returns
unfolding ends_up_to every
returns c = refl
