-- `fields::payload` meets its contract. Assumes nothing.
use borrow.Author.Rules.{rules}
use Rattle.fields.proofs.FieldLaws.{value_bad, value_whole, part_bad, part_sized, eight, four, other, tag_place}
use Rattle.fields.proofs.payload.Goals as goal

pub returns-in_err-value : goal.returns-in_err-value
returns-in_err-value c = rw c.from_residual.ensures (search (value_bad, rules))

pub returns-then-wire-eq-VARINT : goal.returns-then-wire-eq-VARINT
returns-then-wire-eq-VARINT c = search (value_whole, rules)

pub returns-in_err-size : goal.returns-in_err-size
returns-in_err-size c = rw c.from_residual-in_err-size.ensures (search (part_bad, rules))

pub sized-requires : goal.sized-requires
sized-requires c = (tag_place _ _ _ c.number_at-then-wire-eq-DELIMITED.ensures _ _ c.in_ok-size.was).1

pub returns-then-wire-eq-DELIMITED : goal.returns-then-wire-eq-DELIMITED
returns-then-wire-eq-DELIMITED c = search (part_sized, rules)

pub returns-then-wire-eq-FIXED64 : goal.returns-then-wire-eq-FIXED64
returns-then-wire-eq-FIXED64 c = search (eight, rules)

pub returns-then-wire-eq-FIXED32 : goal.returns-then-wire-eq-FIXED32
returns-then-wire-eq-FIXED32 c = search (four, rules)

pub returns : goal.returns
returns c = search (other, rules)
