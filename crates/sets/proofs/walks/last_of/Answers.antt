use Prim.Native.Nat.{ℕ, ◌+◌, ◌<◌}
use native.Mathlib.Omega.{arith}
use mathlib.Core.Path.{refl, sym, ap, ◌∙◌}
use mathlib.Core.Bool.{true, false}
use lib.ListN.{length, drop}
use Rattle.words.specs.Words.{bits_of}
use Rattle.sets.specs.Sets.{last_of}
use Rattle.sets.proofs.WalkLaws.{last_step, last_end}
use Rattle.sets.proofs.walks.last_of.Goals.{then-at, else-at}
use Rattle.sets.proofs.walks.last_of.Goals as goal

pub loop-next-init : goal.loop-next-init
loop-next-init c = (omega arith, refl)

pub loop-next-preserved : goal.loop-next-preserved
loop-next-preserved c =
    let a = c.args in
    let l = c.loop-next in
    let p = bits_of a.p in
    let order = a.order.now in
    let rest : ℕ → ℕ = λ s. last_of p (drop (l.next-index + 1) order) s in
    let lt : l.next-index < length order = omega arith in
    let e = c.at.ensures in
    elim c.if-at.branch [
      | then-at w ↦ (
        omega arith,
        ap rest w.last-is ∙ sym (last_step p order l.next-index lt true l.last (sym e ∙ w.if-at.true)) ∙ l.invariant.1,
      )
      | else-at w ↦ (
        omega arith,
        ap rest w.last-is ∙ sym (last_step p order l.next-index lt false l.last (sym e ∙ w.if-at.false)) ∙ l.invariant.1,
      )
    ]

pub returns : goal.returns
returns c =
    let a = c.args in
    let l = c.loop-next in
    sym (last_end (bits_of a.p) a.order.now l.next-index (omega arith) l.last) ∙ l.invariant.1
