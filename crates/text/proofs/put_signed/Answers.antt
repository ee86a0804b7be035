-- `text::put_signed` meets its contract: the sign decides which of two texts it is (`text_neg`, `text_pos`); each is stored by the calls
-- made. Assumes nothing.
use Rattle.index.proofs.Kit.{arith, ap, ◌∙◌}
use lib.ListN.{length, length-set}
use Rattle.text.proofs.TextLaws.{text_neg, text_pos, stored_first, stored_same}
use Rattle.text.proofs.put_signed.Goals as goal

pub bounds-buf-at : goal.bounds-buf-at
bounds-buf-at c = omega (arith, ap length (text_neg _ _ _ c.ranges.n c.nat_abs-size.ensures c.is_negative.ensures c.if-is_negative.true))

pub put_decimal-requires : goal.put_decimal-requires
put_decimal-requires c =
    simp length-set (omega (arith, ap length (text_neg _ _ _ c.ranges.n c.nat_abs-size.ensures c.is_negative.ensures c.if-is_negative.true)))

pub shape_of-buf-then-is_negative : goal.shape_of-buf-then-is_negative
shape_of-buf-then-is_negative c = c.put_decimal.auto.buf ∙ simp length-set

pub returns-then-is_negative : goal.returns-then-is_negative
returns-then-is_negative c =
    stored_first _ _ _ _ _ _ _ (text_neg _ _ _ c.ranges.n c.nat_abs-size.ensures c.is_negative.ensures c.if-is_negative.true) c.put_decimal.ensures

pub put_decimal-requires-2 : goal.put_decimal-requires-2
put_decimal-requires-2 c = omega (arith, ap length (text_pos _ _ _ c.ranges.n c.nat_abs-size.ensures c.is_negative.ensures c.if-is_negative.false))

pub returns : goal.returns
returns c = stored_same _ _ _ _ _ _ (text_pos _ _ _ c.ranges.n c.nat_abs-size.ensures c.is_negative.ensures c.if-is_negative.false) c.put_decimal-2.ensures
