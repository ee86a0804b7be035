-- `fields::short_size` meets its contract. Assumes nothing.
use Rattle.fields.proofs.FieldLaws.{size_part, size_none}
use Rattle.fields.proofs.short_size.Goals as goal

pub returns-then-wire-eq-DELIMITED : goal.returns-then-wire-eq-DELIMITED
returns-then-wire-eq-DELIMITED c = size_part _ _ c.if-wire-eq-DELIMITED.true

pub returns-else-wire-eq-DELIMITED : goal.returns-else-wire-eq-DELIMITED
returns-else-wire-eq-DELIMITED c = size_none _ _ c.if-wire-eq-DELIMITED.false
