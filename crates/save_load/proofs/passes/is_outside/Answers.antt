use mathlib.Core.Path.{refl}
use Rattle.save_load.proofs.passes.is_outside.Goals as goal

pub returns : goal.returns
returns c = refl
