-- `limits::code_in` meets its contract. Assumes nothing.
use Rattle.index.proofs.Kit.{refl}
use lib.ListN.{get_or}
use Rattle.varint.specs.Codes.{number_of}
use Rattle.limits.specs.Limits.{field_of}
use Rattle.limits.proofs.LimitLaws.{lies_at}
use Rattle.limits.proofs.FieldLaws.{code_in_lem}
use Rattle.limits.proofs.code_in.Goals as goal

pub returns : goal.returns
returns c =
    let i = c.args.i in
    let codes = c.args.codes.now in
    code_in_lem codes i _ (lies_at (number_of (get_or codes i 0)) (field_of i) i _ _ c.limit_of-l.ensures refl c.code_lies.ensures)
