-- `answers::packed` meets its contract. Assumes nothing.
use mathlib.Core.Path.{refl}
use Rattle.answers.proofs.packed.Goals as goal

pub returns : goal.returns
returns c = refl
