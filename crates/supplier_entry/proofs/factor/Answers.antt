-- `supplier_entry::factor` meets its contract. Assumes nothing.
use Rattle.index.proofs.Kit.{arith, refl}
use lib.Dec.{le→leb}
use lib.Ieee.{in_float}
use Rattle.supplier_entry.specs.Factor.{factor_of, thousand}
use Rattle.supplier_entry.proofs.FactorLaws.{factor_no_nan}
use Rattle.supplier_entry.proofs.factor.Goals as goal

pub int_to_float-result : goal.int_to_float-result
unfolding in_float
int_to_float-result c = le→leb c.args.n 9007199254740992 (omega arith)

pub returns : goal.returns
unfolding factor_of thousand
returns c = (refl, factor_no_nan c.args.n c.requires)
