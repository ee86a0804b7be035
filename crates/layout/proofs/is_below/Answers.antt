use mathlib.Core.Path.{refl}
use Rattle.layout.specs.View.{is_below}
use Rattle.layout.proofs.is_below.Goals as goal

pub returns : goal.returns
unfolding is_below
returns c = refl
