use Rattle.index.proofs.Kit.{ap, not}
use Prim.Native.Nat.{◌-◌}
use native.Mathlib.Omega.{arith}
use Rattle.save_load.proofs.NumberLaws.{joining_start, joining_byte, joining_more, joining_all}
use Rattle.save_load.proofs.numbers.long_number.Goals as goal

pub last_of-last-requires : goal.last_of-last-requires
last_of-last-requires c = c.requires

pub bounds-s-last : goal.bounds-s-last
bounds-s-last c = c.last_of-last.ensures.high

pub returns-then-not-value : goal.returns-then-not-value
returns-then-not-value c = c.read_u64.ensures

pub loop-place-init : goal.loop-place-init
loop-place-init c = joining_start _ _ _ _ c.last_of-last.ensures c.wide-value.ensures (ap not c.if-not-value.false)

pub returns-then-value-gt-ROOM : goal.returns-then-value-gt-ROOM
returns-then-value-gt-ROOM c = c.read_u64-then-value-gt-ROOM.ensures

pub bounds-s-place : goal.bounds-s-place
bounds-s-place c = let w = c.loop-place.invariant in let l = w.bytes.high in let h = w.high in omega arith

pub overflow_sub-value : goal.overflow_sub-value
overflow_sub-value c =
    let k = joining_byte _ _ _ _ _ c.loop-place.invariant (omega arith) in
    let e = c.wide.ensures in
    omega arith

pub overflow_add-value : goal.overflow_add-value
overflow_add-value c =
    let u = c.type_inv.s (c.loop-place.place - 1) in
    let e = c.wide.ensures in
    omega arith

pub loop-place-preserved : goal.loop-place-preserved
loop-place-preserved c =
    let u = c.type_inv.s (c.loop-place.place - 1) in
    let e = c.wide.ensures in
    joining_more _ _ _ _ _ c.loop-place.invariant (omega arith) (omega arith) _ e
    (omega arith)

pub overflow_add-result : goal.overflow_add-result
overflow_add-result c = let w = c.loop-place.invariant in let l = w.bytes.high in omega arith

pub returns : goal.returns
returns c = joining_all _ _ _ _ _ c.loop-place.invariant (omega arith)
