use Rattle.index.proofs.Kit.{rules, arith}
use Rattle.message_ids.proofs.TableLaws.{good_numbers, order_long}
use Rattle.message_ids.proofs.FindLaws.{parted_none, parted_up, parted_down, parted_found, parted_all, mid_low}
use Rattle.message_ids.proofs.number_row.Goals as goal

pub loop-low-init : goal.loop-low-init
loop-low-init c = parted_none _ _ _

pub offset_bounds-order-mid : goal.offset_bounds-order-mid
offset_bounds-order-mid c =
    let o = c.loop-low.invariant.high_low in
    let l = order_long _ _ c.requires in
    search rules

pub bounds-order-mid : goal.bounds-order-mid
bounds-order-mid c =
    let o = c.loop-low.invariant.high_low in
    omega (arith, order_long _ _ c.requires)

pub offset_bounds-numbers-row : goal.offset_bounds-numbers-row
offset_bounds-numbers-row c =
    let l = mid_low _ _ _ _ _ c.requires c.loop-low.invariant c.loop-low-test.true in
    search rules

pub bounds-numbers-row : goal.bounds-numbers-row
bounds-numbers-row c = mid_low _ _ _ _ _ c.requires c.loop-low.invariant
    c.loop-low-test.true

pub returns-then-number-v : goal.returns-then-number-v
returns-then-number-v c = parted_found _ _ (good_numbers _ _ c.requires) _ _ _ _
    c.loop-low.invariant (omega arith) (omega arith) c.if-number-v.true

pub loop-low-preserved-then-number-v-2 : goal.loop-low-preserved-then-number-v-2
loop-low-preserved-then-number-v-2 c = parted_up _ _ (good_numbers _ _ c.requires) _ _ _ _
    c.loop-low.invariant (omega arith) (omega arith) c.if-number-v-2.true

pub loop-low-preserved : goal.loop-low-preserved
loop-low-preserved c =
    let g = good_numbers _ _ c.requires in
    parted_down _ _ g _ _ _ _ c.loop-low.invariant (omega arith) (omega arith) c.if-number-v-2.false
    c.if-number-v.false

pub returns : goal.returns
returns c = parted_all _ _ (good_numbers _ _ c.requires) _ _ _ c.loop-low.invariant c.loop-low-test.false
