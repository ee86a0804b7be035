-- `gate::is_heard`: the same two tests.
-- Assumes nothing.
use mathlib.Core.Path.{refl}
use Rattle.gate.proofs.is_heard.Goals as goal

pub returns : goal.returns
returns c = refl
