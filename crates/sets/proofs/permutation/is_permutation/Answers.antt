use Prim.Native.Nat.{ℕ, ◌+◌}
use native.Mathlib.Omega.{arith}
use borrow.Author.Rules.{rules}
use mathlib.Core.Path.{refl, sym, ap, ◌∙◌}
use mathlib.Core.Bool.{Bool, true}
use mathlib.Core.List.{List}
use lib.ListN.{length, drop, get_or, length-set}
use lib.Seq.{set_out}
use lib.Dec.{eqb}
use Rattle.records.specs.Records.{slot_count}
use Rattle.sets.specs.Sets.{size}
use Rattle.sets.proofs.PermutationLaws.{not_long, marked, marked_step, marked_end, marked_permutation}
use Rattle.sets.proofs.permutation.is_permutation.Goals.{then-s, else-s}
use Rattle.sets.proofs.permutation.is_permutation.Goals as goal

pub returns-then-p-ne-SLOTS : goal.returns-then-p-ne-SLOTS
returns-then-p-ne-SLOTS c = sym (not_long slot_count c.args.p.now c.if-p-ne-SLOTS.true)

pub loop-s-init : goal.loop-s-init
loop-s-init c = (search rules, search rules, refl, refl)

pub loop-s-preserved : goal.loop-s-preserved
loop-s-preserved c =
    let l = c.loop-s in
    let p = c.args.p.now in
    let s = get_or p l.s-index 0 in
    let rest : List Bool → List Bool = marked (drop (l.s-index + 1) p) in
    let step = sym (marked_step p l.s-index l.seen (omega arith)) ∙ l.invariant.3 in
    elim c.if-s.branch [
      | then-s w ↦ (omega arith, l.invariant.1, ap length w.seen-is ∙ length-set l.seen s true ∙ l.invariant.2, ap rest w.seen-is ∙ step)
      | else-s w ↦ (
        omega arith,
        l.invariant.1,
        ap length w.seen-is ∙ l.invariant.2,
        ap rest (w.seen-is ∙ sym (set_out l.seen s true (omega arith))) ∙ step,
      )
    ]

pub returns : goal.returns
returns c =
    let l = c.loop-s in
    let p = c.args.p.now in
    ap (λ (k : ℕ). eqb k slot_count)
    (c.marks.ensures ∙ ap size (sym (marked_end p l.s-index l.seen (omega arith)) ∙ l.invariant.3))
    ∙ marked_permutation slot_count p l.invariant.1
