use Prim.Native.Nat.{ℕ, ◌+◌, ◌-◌}
use native.Mathlib.Omega.{arith}
use mathlib.Core.Path.{◌≡◌, sym, ap, ◌∙◌}
use mathlib.Core.Bool.{Bool, true}
use mathlib.Core.List.{List}
use lib.ListN.{set}
use Rattle.records.specs.Records.{slot_count}
use Rattle.words.specs.Words.{bits_of}
use Rattle.sets.specs.Sets.{bests}
use Rattle.sets.proofs.WalkLaws.{bests_step, bests_end}
use Rattle.sets.proofs.walks.bests.Goals as goal

pub loop-pick-init : goal.loop-pick-init
loop-pick-init c =
    let a = c.args in
    let z : a.k - 0 ≡ a.k = omega arith in
    ap (λ (n : ℕ). bests slot_count a.scores.now (bits_of a.m) a.order.now n (bits_of c.none-b.result)) z
    ∙ ap (bests slot_count a.scores.now (bits_of a.m) a.order.now a.k) c.none-b.ensures

pub loop-pick-preserved : goal.loop-pick-preserved
loop-pick-preserved c =
    let l = c.loop-pick in
    let a = c.args in
    let e : a.k - (l.pick + 1) ≡ a.k - l.pick - 1 = omega arith in
    let rest : List Bool → List Bool = bests slot_count a.scores.now (bits_of a.m) a.order.now (a.k - l.pick - 1) in
    ap (λ (n : ℕ). bests slot_count a.scores.now (bits_of a.m) a.order.now n (bits_of c.put-more.result)) e
    ∙ ap rest (c.put-more.ensures ∙ ap (λ (s : ℕ). set (bits_of l.b) s true) c.next_best.ensures)
    ∙ sym (bests_step slot_count a.scores.now (bits_of a.m) a.order.now (a.k - l.pick) (bits_of l.b) (omega arith))
    ∙ l.invariant

pub returns : goal.returns
returns c =
    let a = c.args in
    let l = c.loop-pick in
    sym (bests_end slot_count a.scores.now (bits_of a.m) a.order.now (a.k - l.pick) (bits_of l.b) (omega arith)) ∙ l.invariant
