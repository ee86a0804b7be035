-- `varint::write_u64` meets its contract. The measure is the number that is left to write. Assumes nothing.
use Rattle.index.proofs.Kit.{arith}
use lib.ListN.{length-set}
use Rattle.varint.proofs.GroupLaws.{left_end, left_last, left_full, left_more}
use Rattle.varint.proofs.+write_u64.Goals as goal

pub returns-then-buf-at : goal.returns-then-buf-at
returns-then-buf-at t c = left_end _ _ _ c.if-buf-at.true

pub shape_of-buf-then-n-lt128 : goal.shape_of-buf-then-n-lt128
shape_of-buf-then-n-lt128 t c = simp length-set

pub returns-then-n-lt128 : goal.returns-then-n-lt128
returns-then-n-lt128 t c = left_last _ _ _ (omega arith) c.if-n-lt128.true

pub write_u64-requires : goal.write_u64-requires
write_u64-requires t c = (omega arith, tt)

pub shape_of-buf-in_err-next : goal.shape_of-buf-in_err-next
shape_of-buf-in_err-next t c = c.write_u64.auto.buf

pub returns-in_err-next : goal.returns-in_err-next
returns-in_err-next t c = rw c.from_residual.ensures (left_full _ _ _ _ _ (omega arith) c.write_u64.ensures c.in_err-next.was)

pub bounds-buf-at-2 : goal.bounds-buf-at-2
bounds-buf-at-2 t c = omega (arith, c.write_u64.auto.buf)

pub shape_of-buf : goal.shape_of-buf
shape_of-buf t c = simp length-set c.write_u64.auto.buf

pub returns : goal.returns
returns t c = left_more _ _ _ _ _ _ (omega arith) c.write_u64.ensures c.in_ok-next.was
