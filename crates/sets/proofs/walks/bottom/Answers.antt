use Prim.Native.Nat.{ℕ, ◌+◌, ◌<◌}
use native.Mathlib.Omega.{arith}
use mathlib.Core.Path.{refl, sym, ap, ◌∙◌}
use mathlib.Core.Bool.{true, false}
use lib.ListN.{length, drop}
use Rattle.records.specs.Records.{slot_count}
use Rattle.words.specs.Words.{bits_of}
use Rattle.sets.specs.Sets.{bottom}
use Rattle.sets.proofs.WalkLaws.{bottom_step, bottom_end}
use Rattle.sets.proofs.walks.bottom.Goals.{then-sinks, else-sinks}
use Rattle.sets.proofs.walks.bottom.Goals as goal

pub loop-s-init : goal.loop-s-init
loop-s-init c = (omega arith, refl)

pub loop-s-preserved : goal.loop-s-preserved
loop-s-preserved c =
    let a = c.args in
    let l = c.loop-s in
    let scores = a.scores.now in
    let p = bits_of a.p in
    let order = a.order.now in
    let rest : ℕ → ℕ = λ s. bottom slot_count scores p (drop (l.s-index + 1) order) s in
    let lt : l.s-index < length order = omega arith in
    let e = c.sinks.ensures in
    elim c.if-sinks.branch [
      | then-sinks w ↦ (
        omega arith,
        ap rest w.low-is ∙ sym (bottom_step p order l.s-index lt true slot_count scores l.low (sym e ∙ w.if-sinks.true)) ∙ l.invariant.1,
      )
      | else-sinks w ↦ (
        omega arith,
        ap rest w.low-is ∙ sym (bottom_step p order l.s-index lt false slot_count scores l.low (sym e ∙ w.if-sinks.false)) ∙ l.invariant.1,
      )
    ]

pub returns : goal.returns
returns c =
    let a = c.args in
    let l = c.loop-s in
    sym (bottom_end (bits_of a.p) a.order.now l.s-index (omega arith) slot_count a.scores.now l.low) ∙ l.invariant.1
