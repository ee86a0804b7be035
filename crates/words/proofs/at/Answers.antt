-- `words::at` meets its contract.
-- Assumes nothing.
use native.Mathlib.Omega.{arith}
use mathlib.Core.Path.{sym, ◌∙◌}
use Rattle.words.proofs.WideLaws.{at_slot, at_past}
use Rattle.words.proofs.at.Goals as goal

pub returns-then-i-m : goal.returns-then-i-m
returns-then-i-m c =
    let a = c.args in
    c.bit.ensures ∙ at_slot a.m.now a.s (omega arith)

pub returns-else-i-m : goal.returns-else-i-m
returns-else-i-m c =
    let a = c.args in
    sym (at_past a.m.now a.s (omega arith))
