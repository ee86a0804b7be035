-- `supplier_entry::content_of` meets its contract. Assumes nothing.
use Rattle.index.proofs.Kit.{ℕ, ◌*◌, ap, arith}
use mir.Facts.{to_z-of_z}
use Rattle.supplier_entry.proofs.EntryLaws.{content_factor, content_whole, content_span}
use Rattle.supplier_entry.proofs.content_of.Goals as goal

pub factor_bits-requires : goal.factor_bits-requires
factor_bits-requires c =
    let m = rw (to_z-of_z c.ranges.z) at c.nat_abs-size.ensures in
    let h = c.requires.factors c.if-form-eq0.true in
    omega arith

pub returns-then-form-eq0 : goal.returns-then-form-eq0
returns-then-form-eq0 c =
    content_factor _ _ _ _ c.if-form-eq0.true (rw (to_z-of_z c.ranges.z) at c.nat_abs-size.ensures)
    c.factor_bits.ensures

pub returns-then-form-eq1 : goal.returns-then-form-eq1
returns-then-form-eq1 c =
    content_whole _ _ _ c.if-form-eq1.true (rw (to_z-of_z c.ranges.z) at c.unsigned_of.ensures)

pub overflow_mul-result : goal.overflow_mul-result
overflow_mul-result c =
    let m = rw (to_z-of_z c.ranges.z) at c.nat_abs-size.ensures in
    let p = ap (λ (x : ℕ). x * c.args.form.unit) m in
    record { fits = omega (arith, c.requires.spans) }

pub returns : goal.returns
returns c =
    content_span _ _ _ c.if-form-eq0.false c.if-form-eq1.false
    (rw (to_z-of_z c.ranges.z) at c.nat_abs-size.ensures)
