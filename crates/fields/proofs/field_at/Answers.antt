-- `fields::field_at` meets its contract. Assumes nothing.
use Rattle.index.proofs.Kit.{arith, refl}
use Rattle.fields.proofs.NumberLaws.{number_end}
use Rattle.fields.proofs.FieldLaws.{tag_bad, short_is}
use Rattle.fields.proofs.field_at.Goals as goal

pub returns-then-s-at : goal.returns-then-s-at
returns-then-s-at c = tag_bad _ _ _ (number_end _ _ c.if-s-at.true) refl

pub returns-then-left-lt2 : goal.returns-then-left-lt2
returns-then-left-lt2 c = c.long_field.ensures

pub returns-then-is_short : goal.returns-then-is_short
returns-then-is_short c =
    let x = c.from-tag.ensures in
    let y = c.from-value.ensures in
    let s = c.is_short.ensures in
    let z = c.if-is_short.true in
    short_is _ _ _ _ (omega arith) x y _ _ s z c.short_field.ensures

pub returns : goal.returns
returns c = c.long_field-2.ensures
