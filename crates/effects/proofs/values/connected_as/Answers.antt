-- `effects::values::connected_as`: the record, field by field.
-- Assumes nothing.
use Rattle.effects.specs.Effects.{connected_as}
use mathlib.Core.Path.{refl}
use Rattle.effects.proofs.values.connected_as.Goals as goal

pub returns : goal.returns
unfolding connected_as
returns c = refl
