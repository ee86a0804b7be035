-- `varint::half` meets its contract.  Assumes nothing.
use Rattle.varint.proofs.Bits.{flip_fits, flip_cast, flip_mag, same_cast, same_mag}
use Rattle.varint.proofs.half.Goals as goal

pub overflow_sub-result : goal.overflow_sub-result
overflow_sub-result c = flip_fits _ c.ranges.n c.if-n-lt0.true

pub overflow_cast-result : goal.overflow_cast-result
overflow_cast-result c = flip_cast _ c.ranges.n c.if-n-lt0.true

pub overflow_cast-result-else-n-lt0 : goal.overflow_cast-result-else-n-lt0
overflow_cast-result-else-n-lt0 c = same_cast _ c.ranges.n c.if-n-lt0.false

pub returns-then-n-lt0 : goal.returns-then-n-lt0
returns-then-n-lt0 c = flip_mag _ c.ranges.n c.if-n-lt0.true

pub returns-else-n-lt0 : goal.returns-else-n-lt0
returns-else-n-lt0 c = same_mag _ c.ranges.n c.if-n-lt0.false
