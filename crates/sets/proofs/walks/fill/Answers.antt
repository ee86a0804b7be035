use Prim.Native.Nat.{ℕ, ◌+◌, ◌<◌}
use native.Mathlib.Omega.{arith}
use borrow.Author.Rules.{rules}
use mathlib.Core.Path.{◌≡◌, refl, sym, ap, ap₂, ◌∙◌}
use mathlib.Core.Bool.{Bool, true, false}
use mathlib.Core.List.{List}
use lib.ListN.{length, drop, get_or}
use Rattle.words.specs.Words.{word_count, bits_of}
use Rattle.sets.specs.Sets.{fill}
use Rattle.sets.proofs.WalkLaws.{takes_room, fill_step, fill_end}
use Rattle.sets.proofs.CountLaws.{fill_zero}
use Rattle.sets.proofs.walks.fill.Goals.{then-takes, else-takes}
use Rattle.sets.proofs.walks.fill.Goals as goal

pub loop-s-init : goal.loop-s-init
loop-s-init c = (omega arith, refl, search rules)

pub returns-then-room-eq0 : goal.returns-then-room-eq0
returns-then-room-eq0 c =
    let l = c.loop-s in
    let z = c.if-room-eq0.true in
    sym (fill_zero _ _ l.room (bits_of l.r) (omega arith)) ∙ l.invariant.1

pub slice_bounds-takes-end-in-loop-s : goal.slice_bounds-takes-end-in-loop-s
slice_bounds-takes-end-in-loop-s c = sym c.loop-s.invariant.2

pub overflow_sub-room : goal.overflow_sub-room
overflow_sub-room c =
    let a = c.args in
    let l = c.loop-s in
    takes_room (bits_of a.p) l.room (bits_of l.r) (get_or a.order.now l.s-index 0)
    (sym c.takes.ensures ∙ c.if-takes.true)

pub loop-s-preserved : goal.loop-s-preserved
loop-s-preserved c =
    let a = c.args in
    let l = c.loop-s in
    let p = bits_of a.p in
    let order = a.order.now in
    let rest : ℕ → List Bool → List Bool = λ k m. fill p k (drop (l.s-index + 1) order) m in
    let lt : l.s-index < length order = omega arith in
    let e = c.takes.ensures in
    elim c.if-takes.branch [
      | then-takes w ↦ (
        omega arith,
        ap₂ rest w.room-is (ap bits_of w.r-is ∙ w.put-r.ensures)
            ∙ sym (fill_step p order l.s-index lt true l.room (bits_of l.r) (sym e ∙ w.if-takes.true))
            ∙ l.invariant.1,
        (let q : length w.put-r.result ≡ word_count = search rules in ap length w.r-is ∙ q),
      )
      | else-takes w ↦ (
        omega arith,
        ap₂ rest w.room-is (ap bits_of w.r-is)
            ∙ sym (fill_step p order l.s-index lt false l.room (bits_of l.r) (sym e ∙ w.if-takes.false))
            ∙ l.invariant.1,
        ap length w.r-is ∙ l.invariant.2,
      )
    ]

pub returns : goal.returns
returns c =
    let a = c.args in
    let l = c.loop-s in
    sym (fill_end (bits_of a.p) l.room a.order.now (bits_of l.r) l.s-index (omega arith)) ∙ l.invariant.1
