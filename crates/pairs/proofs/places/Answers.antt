use Prim.Native.Nat.{ℕ, ◌-◌}
use native.Mathlib.Omega.{arith}
use borrow.Author.Rules.{rules}
use mathlib.Core.Path.{◌≡◌, refl, ◌∙◌, subst}
use lib.ListN.{get_or, length-set}
use lib.Seq.{set_out}
use Rattle.records.specs.Records.{slot_count}
use Rattle.pairs.proofs.PlaceLaws.{Placed, placed_none, placed_more, placed_all}
use Rattle.pairs.proofs.places.Goals as goal

pub loop-i-init : goal.loop-i-init
loop-i-init c = (omega arith, search rules, refl, placed_none slot_count c.args.order (search rules))

pub loop-i-preserved-then-s : goal.loop-i-preserved-then-s
loop-i-preserved-then-s c =
    let o = c.args.order in
    let l = c.loop-i in
    let j = l.i - 1 in (
      omega arith,
      l.invariant.1,
      length-set l.r (get_or o j 0) j ∙ l.invariant.2,
      placed_more slot_count o l.i l.r (omega arith) (omega arith) l.invariant.2 l.invariant.3,
    )

pub loop-i-preserved : goal.loop-i-preserved
loop-i-preserved c =
    let o = c.args.order in
    let l = c.loop-i in
    let j = l.i - 1 in (
      omega arith,
      l.invariant.1,
      l.invariant.2,
      subst (Placed slot_count o j) (set_out l.r (get_or o j 0) j (omega arith))
          (placed_more slot_count o l.i l.r (omega arith) (omega arith) l.invariant.2 l.invariant.3),
    )

pub returns : goal.returns
returns c =
    let l = c.loop-i in
    let z : l.i ≡ 0 = omega arith in
    let o = c.args.order in
    placed_all slot_count o l.r l.invariant.2 (subst (λ (i : ℕ). Placed slot_count o i l.r) z l.invariant.3)
