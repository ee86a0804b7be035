-- `effects::values::retained_to`: the record, field by field.
-- Assumes nothing.
use Rattle.effects.specs.Effects.{retained_to}
use mathlib.Core.Path.{refl}
use Rattle.effects.proofs.values.retained_to.Goals as goal

pub returns : goal.returns
unfolding retained_to
returns c = refl
