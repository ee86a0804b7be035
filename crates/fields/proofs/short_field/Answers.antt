-- `fields::short_field` meets its contract. Assumes nothing.
use Rattle.index.proofs.Kit.{rules}
use Rattle.fields.proofs.FieldLaws.{short_in, short_out}
use Rattle.fields.proofs.short_field.Goals as goal

pub returns-then-size-room : goal.returns-then-size-room
returns-then-size-room c = search (short_in, rules)

pub returns : goal.returns
returns c = search (short_out, rules)
