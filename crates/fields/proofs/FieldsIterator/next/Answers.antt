-- `Fields::next` meets its contract. Assumes nothing.
use Rattle.std.proofs.Common.{rules}
use Rattle.fields.proofs.FieldLaws.{read_falls}
use Rattle.fields.proofs.FieldsIterator.next.Goals as goal

pub returns-clause-goes : goal.returns-clause-goes
returns-clause-goes c =
    let h = read_falls _ _ _ _ c.field_at.ensures c.in-Some.is c.if-self.false in
    search (h, rules)
