-- The claims about scores, from the laws of crate score (ScoreLaws). A part's bound is that of the balance which is worth it.
-- Assumes nothing.
use Prim.Native.Nat.{ℕ, ◌-◌, ◌*◌, ◌<◌, ◌≤◌}
use native.Mathlib.Omega.{arith}
use mathlib.Core.Path.{◌≡◌, refl, ap}
use mathlib.Core.Bool.{Bool, true, false, ◌||◌}
use lib.Dec.{eqb}
use lib.IntN.{ℤ, pos, ◌*ℤ◌}
use lib.Signed.{le_z}
use borrow.Author.Tests.{eq-eqb, ne_eqb}
use Rattle.index.proofs.Index.{count_same}
use Rattle.index.proofs.Flags.{by_test}
use Rattle.records.specs.declared.Groups.{Groups}
use Rattle.records.specs.Records.{State, slot_count, peer_in, is_connected, holds_group}
use Rattle.records.specs.Parameters.{w6_at, p6_threshold_at}
use Rattle.validity.specs.Valid.{valid}
use Rattle.score.specs.Formula.{bounded, why_of}
use Rattle.score.specs.Sums.{told_of}
use Rattle.score.specs.Parts.{square, surplus_of, crowd_of}
use Rattle.score.specs.Score.{param_in, magnitude_in, shares_group, sharing, sharing_at, sharers_of, why_in, Agree}
use Rattle.score.proofs.Differences.{diff_size}
use Rattle.score.proofs.InputLaws.{slot_in}
use Rattle.score.proofs.ScoreLaws.{parts_are, told_is, why_sum, router_score_most, why_depends, score_depends}
use Rattle.score_claims.specs.Claims.{PartsWithin, CapsFromAbove, HoldsOne, OneGroupAsBefore, CountedAsBefore, ScoreClaims}

parts_within : (st : State) (s : ℕ) → valid st ≡ true → s < slot_count → PartsWithin (why_in st s)
unfolding told_of
parts_within st s ok h =
    let i = slot_in st ok s h in
    let p = parts_are st s i in
    rw (← told_is st s i)
    (record {
      topics = diff_size _ _ _ p.topics.gain p.topics.loss;
      capped = diff_size _ _ _ p.capped.gain p.capped.loss;
      p5 = diff_size _ _ _ p.gain5 p.loss5;
      p6 = diff_size 0 _ _ (omega arith) p.p6;
      p7 = diff_size 0 _ _ (omega arith) p.p7;
    })

-- the cap, of any total
module _ (cap : ℕ) (total : ℤ) where
  none : cap ≡ 0 → bounded cap total ≡ total
  unfolding bounded
  none e = rw (eq-eqb cap 0 e)

  below : le_z total (pos (cap * 1000000)) ≡ true → bounded cap total ≡ total
  unfolding bounded
  below l = by_test (bounded cap total ≡ total) (eqb cap 0) (λ e. rw e) (λ e. rw (e, l))

  above : 0 < cap → le_z total (pos (cap * 1000000)) ≡ false → bounded cap total ≡ pos (cap * 1000000)
  unfolding bounded
  above h l = rw (ne_eqb cap 0 (λ e. omega arith), l)

caps : (st : State) (s : ℕ) → CapsFromAbove st s
unfolding why_in why_of
caps st s = record { none = none _ _; below = below _ _; above = above _ _ }

-- one group: the other places count nobody, and nobody is no surplus
one_crowd :
    (st : State) (threshold : ℕ) (g : Groups) →
    HoldsOne g →
    crowd_of threshold (sharers_of st g) ≡ square (surplus_of threshold (sharing st g.first))
unfolding crowd_of sharers_of sharing_at
one_crowd st threshold g o =
    let z : 0 - threshold ≡ 0 = omega arith in
    rw (ne_eqb g.first 0 (λ e. omega (arith, e, o.0)), o.1, o.2, o.3, z) (omega arith)

one_p6 : OneGroupAsBefore
unfolding why_in why_of
one_p6 st s o =
    ap (λ (n : ℕ). param_in st w6_at *ℤ pos n *ℤ pos 1000000000)
    (one_crowd st (magnitude_in st p6_threshold_at) (peer_in st s).groups o)

one_held : (g : Groups) (group : ℕ) → 1 ≤ group → HoldsOne g → holds_group g group ≡ eqb g.first group
unfolding holds_group
one_held g group h o =
    rw (o.1, o.2, o.3, ne_eqb 0 group (λ e. omega (arith, e, h)))
    (or_false (eqb g.first group))
  where
    or_false : (a : Bool) → a || false || false || false ≡ a
    or_false true = refl
    or_false false = refl

one_counted : CountedAsBefore
unfolding sharing shares_group
one_counted st group h one =
    count_same _ _ slot_count (λ s l.
    by_test _ (is_connected (peer_in st s))
    (λ on. rw on (one_held (peer_in st s).groups group h (one s l on)))
    (λ off. rw off refl))

pub score_claims : ScoreClaims
score_claims =
    record {
      most = λ st s ok h. router_score_most st ok s h;
      parts = parts_within;
      depends = λ st s other u codes p5 p7 topics sharers.
          let a : Agree st s other u = record { codes = codes; topics = topics; p5 = p5; p7 = p7; sharers = sharers } in
          (score_depends st s other u a, why_depends st s other u a);
      sum = why_sum;
      cap = caps;
      one_group = one_p6;
      counted = one_counted;
    }
