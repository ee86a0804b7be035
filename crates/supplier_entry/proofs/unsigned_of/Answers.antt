-- `supplier_entry::unsigned_of` meets its contract. Assumes nothing.
use Rattle.index.proofs.Kit.{sym, ◌∙◌}
use mir.Facts.{to_z-of_z}
use Rattle.supplier_entry.proofs.EntryLaws.{minus_one, bits_minus, bits_plus}
use Rattle.supplier_entry.proofs.unsigned_of.Goals as goal

pub overflow_sub-result : goal.overflow_sub-result
overflow_sub-result c =
    let f = c.ranges.z in
    minus_one c.args.z _ (rw (to_z-of_z f) at (sym c.if-is_negative.true ∙ c.is_negative.ensures))
    (rw (to_z-of_z f) at c.nat_abs-size.ensures)

pub returns-then-is_negative : goal.returns-then-is_negative
returns-then-is_negative c =
    let f = c.ranges.z in
    bits_minus _ _ (rw (to_z-of_z f) at (sym c.if-is_negative.true ∙ c.is_negative.ensures))
    (rw (to_z-of_z f) at c.nat_abs-size.ensures)

pub returns-else-is_negative : goal.returns-else-is_negative
returns-else-is_negative c =
    let f = c.ranges.z in
    bits_plus _ _ (rw (to_z-of_z f) at (sym c.if-is_negative.false ∙ c.is_negative.ensures))
    (rw (to_z-of_z f) at c.nat_abs-size.ensures)
