use mathlib.Core.Path.{refl}
use Rattle.validity.specs.Valid.{rising_ok}
use Rattle.validity.proofs.valid.rising_ok.Goals as goal

pub returns : goal.returns
unfolding rising_ok
returns c = refl
