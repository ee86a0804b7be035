-- `fields::number_at` meets its contract. Assumes nothing.
use native.Mathlib.Omega.{arith}
use Rattle.fields.proofs.NumberLaws.{number_end, number_one}
use Rattle.fields.proofs.number_at.Goals as goal

pub returns-then-s-at : goal.returns-then-s-at
returns-then-s-at c = number_end _ _ c.if-s-at.true

pub returns-then-low-lt-GROUP : goal.returns-then-low-lt-GROUP
returns-then-low-lt-GROUP c = number_one _ _ _ c.from-low.ensures (omega arith) (omega arith)

pub returns : goal.returns
returns c = c.long_number.ensures
