use Prim.Native.Nat.{ℕ, ◌+◌, ◌-◌, ◌≤◌, ◌<◌}
use native.Mathlib.Omega.{arith}
use mathlib.Core.Path.{◌≡◌, sym, ap, ◌∙◌}
use Rattle.records.specs.Records.{slot_count}
use Rattle.words.specs.Words.{bits_of}
use Rattle.sets.specs.Sets.{size, both, except, comers, swap_to}
use Rattle.sets.proofs.WalkLaws.{swap_end, swap_enough, swap_none, swap_kept, swap_go}
use Rattle.sets.proofs.SwapLaws.{comers_is, once_is}
use Rattle.sets.proofs.walks.swap_to.Goals as goal

pub loop-swap-init : goal.loop-swap-init
loop-swap-init c =
    let a = c.args in
    let z : a.out - 0 ≡ a.out = omega arith in
    ap (λ (n : ℕ). swap_to slot_count a.out a.scores.now (bits_of a.outbound) a.order.now (bits_of a.m) (bits_of a.b) n (bits_of a.k)) z

pub returns-then-out-size : goal.returns-then-out-size
returns-then-out-size c =
    let a = c.args in
    let l = c.loop-swap in
    let e = ap size c.both-in-loop-swap.ensures in
    let n = c.size.ensures in
    let enough : a.out ≤ size (both (bits_of l.r) (bits_of a.outbound)) = omega arith in
    sym (swap_enough slot_count a.out a.scores.now (bits_of a.outbound) a.order.now (bits_of a.m) (bits_of a.b) (a.out - l.swap)
    (bits_of l.r) enough) ∙ l.invariant

pub returns-then-size-eq0 : goal.returns-then-size-eq0
returns-then-size-eq0 c =
    let a = c.args in
    let l = c.loop-swap in
    let m = c.both.ensures in
    let w = c.except-comers.ensures in
    let e = ap size
    (comers_is slot_count a.out a.scores.now (bits_of a.outbound) a.order.now (bits_of a.m) (bits_of a.b)
    (bits_of l.r) m w) in
    let n = c.size-in-loop-swap.ensures in
    let z : size
    (comers slot_count a.out a.scores.now (bits_of a.outbound) a.order.now (bits_of a.m) (bits_of a.b) (bits_of l.r))
    ≡ 0 = omega arith in
    sym (swap_none slot_count a.out a.scores.now (bits_of a.outbound) a.order.now (bits_of a.m) (bits_of a.b) (a.out - l.swap)
    (bits_of l.r) z) ∙ l.invariant

pub returns-then-size-eq0-2 : goal.returns-then-size-eq0-2
returns-then-size-eq0-2 c =
    let a = c.args in
    let l = c.loop-swap in
    let e = ap size c.except-inbound.ensures in
    let n = c.size-in-loop-swap-2.ensures in
    let z : size (except (bits_of l.r) (bits_of a.outbound)) ≡ 0 = omega arith in
    sym (swap_kept slot_count a.out a.scores.now (bits_of a.outbound) a.order.now (bits_of a.m) (bits_of a.b) (a.out - l.swap)
    (bits_of l.r) z) ∙ l.invariant

pub loop-swap-preserved : goal.loop-swap-preserved
loop-swap-preserved c =
    let a = c.args in
    let l = c.loop-swap in
    let m = c.both.ensures in
    let w = c.except-comers.ensures in
    let e₁ = ap size c.both-in-loop-swap.ensures in
    let n₁ = c.size.ensures in
    let few : size (both (bits_of l.r) (bits_of a.outbound)) < a.out = let f = c.if-out-size.false in omega arith in
    let e₂ = ap size
    (comers_is slot_count a.out a.scores.now (bits_of a.outbound) a.order.now (bits_of a.m) (bits_of a.b)
    (bits_of l.r) m w) in
    let n₂ = c.size-in-loop-swap.ensures in
    let one-comes :
    0 < size (comers slot_count a.out a.scores.now (bits_of a.outbound) a.order.now (bits_of a.m) (bits_of a.b)
    (bits_of l.r)) =
    let f = c.if-size-eq0.false in
    omega arith in
    let g = c.except-inbound.ensures in
    let e₃ = ap size g in
    let n₃ = c.size-in-loop-swap-2.ensures in
    let one-goes : 0 < size (except (bits_of l.r) (bits_of a.outbound)) =
    let f = c.if-size-eq0-2.false in
    omega arith in
    let left : a.out - (l.swap + 1) ≡ a.out - l.swap - 1 = omega arith in
    let once =
    once_is slot_count a.out a.scores.now (bits_of a.outbound) a.order.now (bits_of a.m) (bits_of a.b) (bits_of l.r) m w g
    c.goer.ensures
    c.put.ensures
    c.first_of.ensures
    c.put-r.ensures in
    ap (λ (n : ℕ). swap_to slot_count a.out a.scores.now (bits_of a.outbound) a.order.now (bits_of a.m) (bits_of a.b) n (bits_of c.put-r.result)) left
    ∙ ap (swap_to slot_count a.out a.scores.now (bits_of a.outbound) a.order.now (bits_of a.m) (bits_of a.b) (a.out - l.swap - 1)) once
    ∙ sym (swap_go slot_count a.out a.scores.now (bits_of a.outbound) a.order.now (bits_of a.m) (bits_of a.b) (a.out - l.swap)
    (bits_of l.r) (omega arith) few one-comes
    one-goes)
    ∙ l.invariant

pub returns : goal.returns
returns c =
    let a = c.args in
    let l = c.loop-swap in
    sym (swap_end slot_count a.out a.scores.now (bits_of a.outbound) a.order.now (bits_of a.m) (bits_of a.b) (a.out - l.swap)
    (bits_of l.r) (omega arith)) ∙ l.invariant
