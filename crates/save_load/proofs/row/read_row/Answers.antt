use mathlib.Core.Path.{sym, ◌∙◌}
use native.Mathlib.Omega.{arith}
use Rattle.save_load.proofs.StoreLaws.{reading_none, reading_read, reading_more, reading_done}
use Rattle.save_load.proofs.row.read_row.Goals as goal

pub loop-i-init : goal.loop-i-init
loop-i-init c = reading_none _ _ _ c.requires.0 c.requires.1

pub shape_of-row-in_default : goal.shape_of-row-in_default
shape_of-row-in_default c = c.loop-i.invariant.long ∙ sym c.requires.1

pub returns-in_default : goal.returns-in_default
returns-in_default c =
    let l = c.loop-i in
    reading_read _ _ _ _ _ l.invariant c.loop-i-test.true _ c.read_number.ensures
    c.in_default.is

pub bounds-row-i : goal.bounds-row-i
bounds-row-i c = let n = c.loop-i.invariant.long in omega arith

pub loop-i-preserved : goal.loop-i-preserved
loop-i-preserved c =
    let l = c.loop-i in
    reading_more _ _ _ _ _ l.invariant c.loop-i-test.true _
    c.read_number.ensures _ _ c.in-Some.is

pub shape_of-row : goal.shape_of-row
shape_of-row c = c.loop-i.invariant.long ∙ sym c.requires.1

pub returns : goal.returns
returns c = reading_done _ _ _ _ _ c.loop-i.invariant c.loop-i-test.false
