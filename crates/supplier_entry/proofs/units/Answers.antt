-- `supplier_entry::units` meets its contract. Assumes nothing.
use mir.Syntax.{w64}
use mir.Facts.{to_z_pos}
use Rattle.supplier_entry.proofs.EntryLaws.{units_part, units_whole, units_lt}
use Rattle.supplier_entry.proofs.units.Goals as goal

pub returns-then-t-unit-ne0 : goal.returns-then-t-unit-ne0
returns-then-t-unit-ne0 c = units_part _ _ _ c.if-t-unit-ne0.true

pub overflow_cast-n : goal.overflow_cast-n
overflow_cast-n c = record { sfits = units_lt c.args.unit c.args.t c.requires c.ranges.t.fits }

pub returns : goal.returns
returns c =
    units_whole c.args.limit c.args.unit c.args.t _ c.if-t-unit-ne0.false
    (rw (to_z_pos w64 (units_lt c.args.unit c.args.t c.requires c.ranges.t.fits)) at c.whole.ensures)
