-- `effects::values::with_p7`: the record, field by field.
-- Assumes nothing.
use Rattle.effects.specs.Effects.{with_p7}
use mathlib.Core.Path.{refl}
use Rattle.effects.proofs.values.with_p7.Goals as goal

pub returns : goal.returns
unfolding with_p7
returns c = refl
