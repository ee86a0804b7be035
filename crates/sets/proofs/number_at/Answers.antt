-- `sets::number_at` meets its contract.
-- Assumes nothing.
use native.Mathlib.Omega.{arith}
use mathlib.Core.Path.{sym}
use lib.ListN.{get_or-eq_default}
use Rattle.sets.proofs.number_at.Goals as goal

pub returns-else-s-numbers : goal.returns-else-s-numbers
returns-else-s-numbers c = let a = c.args in sym (get_or-eq_default a.numbers.now 0 (omega arith))
