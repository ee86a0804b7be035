-- `supplier_entry::factor_bits` meets its contract. Assumes nothing.
use Rattle.index.proofs.Kit.{ap}
use lib.Ieee.{to_bits, binary64}
use Rattle.supplier_entry.specs.Factor.{factor_bits}
use Rattle.supplier_entry.proofs.factor_bits.Goals as goal

pub returns : goal.returns
unfolding factor_bits
returns c = ap (to_bits binary64) c.factor.ensures.0
