-- `supplier_params::number_at` meets its contract. Assumes nothing.
use Rattle.index.proofs.Kit.{arith}
use Rattle.supplier_params.proofs.FormLaws.{field_at}
use Rattle.supplier_params.proofs.ImportLaws.{number_is}
use Rattle.supplier_params.proofs.number_at.Goals as goal

pub low_first-u-requires : goal.low_first-u-requires
low_first-u-requires c = (omega arith, omega arith)

pub import-requires : goal.import-requires
import-requires c = rw (c.form_of.ensures, c.limit_of.ensures)
    (field_at c.args.i c.requires.1).fit

pub returns : goal.returns
returns c =
    number_is c.args.s.now c.args.i _ _ _ _ (omega arith) c.low_first-u.ensures.0
    c.form_of.ensures c.limit_of.ensures c.import.ensures
