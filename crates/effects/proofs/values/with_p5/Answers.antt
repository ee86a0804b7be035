-- `effects::values::with_p5`: the record, field by field.
-- Assumes nothing.
use Rattle.effects.specs.Effects.{with_p5}
use mathlib.Core.Path.{refl}
use Rattle.effects.proofs.values.with_p5.Goals as goal

pub returns : goal.returns
unfolding with_p5
returns c = refl
