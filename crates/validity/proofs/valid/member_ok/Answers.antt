use mathlib.Core.Path.{refl}
use Rattle.validity.specs.Valid.{member_ok}
use Rattle.validity.proofs.valid.member_ok.Goals as goal

pub returns : goal.returns
unfolding member_ok
returns c = refl
