use native.Mathlib.Omega.{arith}
use mathlib.Core.Path.{refl, sym, ◌∙◌}
use mathlib.Core.Bool.{true, false}
use Rattle.records.specs.Records.{slot_count}
use Rattle.words.specs.Words.{bits_of}
use Rattle.sets.proofs.WalkLaws.{first_step, first_end}
use Rattle.sets.proofs.walks.first_of.Goals as goal

pub loop-s-init : goal.loop-s-init
loop-s-init c = (omega arith, refl)

pub returns-then-at : goal.returns-then-at
returns-then-at c =
    let a = c.args in
    let l = c.loop-s in
    sym
    (first_step (bits_of a.p) a.order.now l.s-index (omega arith) true slot_count (sym c.at.ensures ∙ c.if-at.true))
    ∙ l.invariant.1

pub loop-s-preserved : goal.loop-s-preserved
loop-s-preserved c =
    let a = c.args in
    let l = c.loop-s in
    let e = sym c.at.ensures ∙ c.if-at.false in (
      omega arith,
      sym (first_step (bits_of a.p) a.order.now l.s-index (omega arith) false slot_count e) ∙ l.invariant.1,
    )

pub returns : goal.returns
returns c =
    let a = c.args in
    let l = c.loop-s in
    sym (first_end (bits_of a.p) a.order.now l.s-index (omega arith) slot_count) ∙ l.invariant.1
