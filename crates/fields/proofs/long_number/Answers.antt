use Rattle.index.proofs.Kit.{◌-◌, ◌∙◌, arith}
use Rattle.fields.proofs.NumberLaws.{without_end, joining_start, joining_byte, joining_more, joining_far, joining_all}
use Rattle.fields.proofs.long_number.Goals as goal

pub returns-in_err-end : goal.returns-in_err-end
returns-in_err-end c = c.from_residual.ensures ∙ without_end _ _ _ c.end_of.ensures c.in_err-end.was

pub overflow_sub-place : goal.overflow_sub-place
overflow_sub-place c = let l = (c.end_of.ensures.with_last _ c.in_ok-end.was).low in omega arith

pub bounds-s-place : goal.bounds-s-place
bounds-s-place c =
    let l = c.end_of.ensures.with_last _ c.in_ok-end.was in
    let i = l.low in
    let h = l.high in
    omega arith

pub loop-place-init : goal.loop-place-init
loop-place-init c = joining_start _ _ _ (c.end_of.ensures.with_last _ c.in_ok-end.was) _ c.from-value.ensures

pub returns-then-value : goal.returns-then-value
returns-then-value c = joining_far _ _ _ _ _ c.loop-place.invariant c.loop-place-test.true (omega arith)

pub bounds-s-place-in-loop-place : goal.bounds-s-place-in-loop-place
bounds-s-place-in-loop-place c = let w = c.loop-place.invariant in let l = w.last.high in let h = w.high in omega arith

pub joined-value-requires : goal.joined-value-requires
joined-value-requires c =
    let k = joining_byte _ _ _ _ _ c.loop-place.invariant c.loop-place-test.true in
    let u = c.type_inv.s (c.loop-place.place - 1) in
    let e = c.from.ensures in
    (omega arith, (omega arith, omega arith))

pub loop-place-preserved : goal.loop-place-preserved
loop-place-preserved c = search joining_more

pub returns : goal.returns
returns c = joining_all _ _ _ _ _ c.loop-place.invariant c.loop-place-test.false
