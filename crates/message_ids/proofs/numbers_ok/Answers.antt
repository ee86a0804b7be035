use mathlib.Core.Path.{sym, ◌∙◌}
use Rattle.index.proofs.Kit.{arith, every_none, every_more}
use Rattle.message_ids.proofs.TableLaws.{numbers_other, numbers_bad, numbers_good}
use Rattle.message_ids.proofs.numbers_ok.Goals as goal

pub returns-then-order-numbers : goal.returns-then-order-numbers
returns-then-order-numbers c = numbers_other _ _ c.if-order-numbers.true

pub loop-k-init : goal.loop-k-init
loop-k-init c = (omega arith, every_none _)

pub place_ok-requires : goal.place_ok-requires
place_ok-requires c = (c.if-order-numbers.false, (omega arith, c.loop-k.invariant.1))

pub returns-then-not-place_ok : goal.returns-then-not-place_ok
returns-then-not-place_ok c =
    let e = c.if-order-numbers.false in
    let t = sym c.place_ok.ensures ∙ c.if-not-place_ok.true in
    numbers_bad _ _ e _ c.loop-k-test.true t

pub loop-k-preserved : goal.loop-k-preserved
loop-k-preserved c = (omega arith, every_more _ _ c.loop-k.invariant.1 (sym c.place_ok.ensures ∙ c.if-not-place_ok.false))

pub returns : goal.returns
returns c = numbers_good _ _ c.if-order-numbers.false _ (omega arith) (omega arith) c.loop-k.invariant.1
