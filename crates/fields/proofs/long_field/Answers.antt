-- `fields::long_field` meets its contract. Assumes nothing.
use borrow.Author.Rules.{rules}
use Rattle.fields.proofs.FieldLaws.{tag_bad, tag_zero, tag_whole, tag_place}
use Rattle.fields.proofs.long_field.Goals as goal

pub returns-in_err-tag : goal.returns-in_err-tag
returns-in_err-tag c = rw c.from_residual.ensures (search (tag_bad, rules))

pub returns-then-tag-lt-FIRST_TAG : goal.returns-then-tag-lt-FIRST_TAG
returns-then-tag-lt-FIRST_TAG c = search (tag_zero, rules)

pub payload-requires : goal.payload-requires
payload-requires c = (tag_place _ _ _ c.number_at.ensures _ _ c.in_ok-tag.was).1

pub returns : goal.returns
returns c = search (tag_whole, rules)
