-- `limits::limits` meets its contract. Assumes nothing.
use mathlib.Core.Path.{refl}
use Rattle.limits.specs.Limits.{limits}
use Rattle.limits.proofs.limits.Goals as goal

pub returns : goal.returns
unfolding limits
returns c = refl
