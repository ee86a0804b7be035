-- `varint::is_negative` meets its contract.  Assumes nothing.
use Rattle.varint.proofs.Bits.{read_neg}
use Rattle.varint.proofs.is_negative.Goals as goal

pub returns : goal.returns
returns c = read_neg _ c.ranges.n
