-- `fields::is_short` meets its contract: the definition's own tests. Assumes nothing.
use mathlib.Core.Path.{refl}
use Rattle.fields.specs.Fields.{is_short}
use Rattle.fields.proofs.is_short.Goals as goal

pub returns : goal.returns
unfolding is_short
returns c = refl
