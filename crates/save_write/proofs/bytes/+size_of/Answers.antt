-- `save_write::bytes::size_of` meets its contract. The measure is the number that is left. Assumes nothing.
use Prim.{tt}
use native.Mathlib.Omega.{arith}
use Rattle.save_write.proofs.WriteLaws.{size_none, size_more}
use Rattle.save_write.proofs.bytes.+size_of.Goals as goal

pub returns-then-n-lt128 : goal.returns-then-n-lt128
returns-then-n-lt128 t c = size_none _ c.if-n-lt128.true

pub size_of-requires : goal.size_of-requires
size_of-requires t c = (omega arith, tt)

pub returns : goal.returns
returns t c = size_more _ _ (omega arith) c.if-n-lt128.false c.size_of.ensures.0
