use Prim.Native.Nat.{ℕ, ◌+◌, ◌<◌}
use native.Mathlib.Omega.{arith}
use mathlib.Core.Path.{refl, sym, ap, ◌∙◌}
use mathlib.Core.Bool.{true, false}
use lib.ListN.{length, get_or, drop}
use Rattle.records.specs.Records.{slot_count}
use Rattle.words.specs.Words.{bits_of}
use Rattle.sets.specs.Sets.{top}
use Rattle.sets.proofs.WalkLaws.{beats_by, top_step, top_end}
use Rattle.sets.proofs.walks.top.Goals.{then-at-best, else-at-best}
use Rattle.sets.proofs.walks.top.Goals as goal

pub loop-s-init : goal.loop-s-init
loop-s-init c = (omega arith, refl, c.number_at-high.ensures)

pub loop-s-preserved : goal.loop-s-preserved
loop-s-preserved c =
    let l = c.loop-s in
    let a = c.args in
    let scores = a.scores.now in
    let p = bits_of a.p.now in
    let order = a.order.now in
    let s = get_or order l.s-index 0 in
    let score = c.number_at-score in
    let rest : ℕ → ℕ = top slot_count scores p (drop (l.s-index + 1) order) in
    let lt : l.s-index < length order = omega arith in
    let e = beats_by slot_count scores p l.best s c.at.ensures score.ensures l.invariant.2 in
    elim c.if-at-best.branch [
      | then-at-best w ↦ (
        omega arith,
        ap rest w.best-is ∙ sym (top_step p order l.s-index lt true slot_count scores l.best (e ∙ w.if-at-best.true)) ∙ l.invariant.1,
        w.high-is ∙ score.ensures ∙ ap (λ (k : ℕ). get_or scores k 0) (sym w.best-is),
      )
      | else-at-best w ↦ (
        omega arith,
        ap rest w.best-is ∙ sym (top_step p order l.s-index lt false slot_count scores l.best (e ∙ w.if-at-best.false)) ∙ l.invariant.1,
        w.high-is ∙ l.invariant.2 ∙ ap (λ (k : ℕ). get_or scores k 0) (sym w.best-is),
      )
    ]

pub returns : goal.returns
returns c =
    let a = c.args in
    let l = c.loop-s in
    sym (top_end (bits_of a.p.now) a.order.now l.s-index (omega arith) slot_count a.scores.now l.best) ∙ l.invariant.1
