-- `text::put_decimal` meets its contract. The measure is the number. Assumes nothing.
use Rattle.index.proofs.Kit.{arith}
use lib.ListN.{length-set}
use Rattle.text.proofs.TextLaws.{length_pos, length_more, stored_last, stored_more}
use Rattle.text.proofs.+put_decimal.Goals as goal

pub bounds-buf-at : goal.bounds-buf-at
bounds-buf-at t c = omega (arith, length_pos c.args.n)

pub overflow_add-result : goal.overflow_add-result
overflow_add-result t c = omega (arith, length_pos c.args.n)

pub shape_of-buf-then-n-lt10 : goal.shape_of-buf-then-n-lt10
shape_of-buf-then-n-lt10 t c = simp length-set

pub returns-then-n-lt10 : goal.returns-then-n-lt10
returns-then-n-lt10 t c = stored_last _ _ _ c.if-n-lt10.true

pub put_decimal-last-requires : goal.put_decimal-last-requires
put_decimal-last-requires t c = omega (arith, length_more c.args.n c.if-n-lt10.false)

pub bounds-buf-last : goal.bounds-buf-last
bounds-buf-last t c = omega (
  arith,
  length_more c.args.n c.if-n-lt10.false,
  c.put_decimal-last.auto.buf,
)

pub overflow_add-result-2 : goal.overflow_add-result-2
overflow_add-result-2 t c = omega (
  arith,
  length_more c.args.n c.if-n-lt10.false,
  c.put_decimal-last.auto.buf,
)

pub shape_of-buf : goal.shape_of-buf
shape_of-buf t c = simp length-set c.put_decimal-last.auto.buf

pub returns : goal.returns
returns t c = stored_more _ _ _ _ _ c.if-n-lt10.false c.put_decimal-last.ensures
