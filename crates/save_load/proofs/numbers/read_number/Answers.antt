-- `save_load::numbers::read_number` meets its contract. Assumes nothing.
use mathlib.Core.Path.{sym}
use native.Mathlib.Omega.{arith}
use Rattle.varint.proofs.GroupLaws.{read_at_end}
use Rattle.save_load.proofs.NumberLaws.{one_byte}
use Rattle.save_load.proofs.numbers.read_number.Goals as goal

pub returns-then-s-at : goal.returns-then-s-at
returns-then-s-at c = sym (read_at_end _ _ _ c.if-s-at.true)

pub returns-then-low-lt-GROUP : goal.returns-then-low-lt-GROUP
returns-then-low-lt-GROUP c = one_byte _ _ _ c.wide-low.ensures (omega arith) (omega arith)

pub returns : goal.returns
returns c = c.long_number.ensures
