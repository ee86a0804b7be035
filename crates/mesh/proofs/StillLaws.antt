-- A still mesh: where the tests of steps 2 to 5 fail, each leaves the mesh of the first; and what is asked of the scores is asked of the
-- members' alone.
-- Assumes nothing.
use Prim.Native.Nat.{ℕ, suc, ◌-◌, ◌/◌, ◌≤◌, ◌<◌}
use native.Mathlib.Omega.{arith}
use mathlib.Core.Path.{◌≡◌, refl, sym, ap, ap₂, ◌∙◌}
use mathlib.Core.Bool.{Bool, true, false, not, ◌&&◌, and-false}
use mathlib.Core.List.{List, [], ◌∷◌}
use lib.ListN.{length, get_or}
use lib.Dec.{leb, ltb}
use borrow.Author.Tests.{le-leb, lt-leb, leb-true, not-true}
use Rattle.index.proofs.Index.{both as and_both}
use Rattle.sets.specs.Sets.{at, size, both, from, sort, scores_of}
use Rattle.sets.proofs.CountLaws.{fill_zero}
use Rattle.sets.proofs.SetLaws.{both_left}
use Rattle.mesh.specs.Maintenance.{View, zero_score, mesh1, mesh4, mesh5, median, meshes}
use Rattle.mesh.specs.Still.{is_low, is_still, still_of}
use Rattle.mesh.specs.declared.Degrees.{Degrees}
use Rattle.mesh.proofs.StepLaws.{mesh2_else, mesh3_else, meshes_are}

-- ---- the code's test over plain values
pub low_unasked : (threshold : ℕ) (ask : Bool) (scores : List ℕ) (m : List Bool) → ask ≡ false → false ≡ is_low threshold ask scores m
unfolding is_low
low_unasked threshold ask scores m e = rw e

module _ (threshold : ℕ) (ask : Bool) (scores : List ℕ) (m : List Bool) {n : ℕ} (en : n ≡ size m) where
  pub low_few : n < 2 → false ≡ is_low threshold ask scores m
  unfolding is_low
  low_few h = let e = lt-leb 2 n h in let f = and-false ask in cc

  pub low_is :
      ask ≡ true →
      2 ≤ n →
      {x : ℕ} →
      x ≡ get_or (sort (scores_of m scores)) (n / 2) 0 →
      ltb x threshold ≡ is_low threshold ask scores m
  unfolding is_low median
  low_is e two ex = let f = le-leb 2 n two in cc

module _ (t : Degrees) (outbound : List Bool) (ask : Bool) (scores : List ℕ) (m : List Bool) {enough : Bool} {n k : ℕ} {mo : List Bool}
    (en : n ≡ size m) (em : mo ≡ both m outbound) (ek : k ≡ size mo)
    (ee : enough ≡ (leb t.lo n && (leb n t.hi && leb t.out k)))
  where
    pub still_not : enough ≡ false → false ≡ is_still t outbound ask scores m
    unfolding is_still
    still_not e = cc

    pub still_is : enough ≡ true → {low : Bool} → low ≡ is_low t.threshold ask scores m → not low ≡ is_still t outbound ask scores m
    unfolding is_still
    still_is e el = cc

-- ---- the steps
module _ (n : ℕ) (t : Degrees) (v : View) (m : List Bool) (e : is_still t v.outbound v.ask v.scores m ≡ true) where
  abbrev parts : Bool
  parts = leb t.lo (size m) && (leb (size m) t.hi && leb t.out (size (both m v.outbound)))

  tests : (parts ≡ true) × (not (is_low t.threshold v.ask v.scores m) ≡ true)
  unfolding is_still
  tests = and_both parts (not (is_low t.threshold v.ask v.scores m)) e

  lo : t.lo ≤ size m
  lo = leb-true t.lo (size m) (and_both (leb t.lo (size m)) _ tests.0).0

  rest : leb (size m) t.hi && leb t.out (size (both m v.outbound)) ≡ true
  rest = (and_both (leb t.lo (size m)) _ tests.0).1

  hi : size m ≤ t.hi
  hi = leb-true (size m) t.hi (and_both (leb (size m) t.hi) _ rest).0

  out : t.out ≤ size (both m v.outbound)
  out = leb-true t.out (size (both m v.outbound)) (and_both (leb (size m) t.hi) _ rest).1

  step4 : m ≡ mesh4 t v m
  unfolding mesh4
  step4 =
      let l = out in
      sym
      (fill_zero (both v.candidates v.outbound) v.permutation (t.out - size (both m v.outbound)) m (omega arith))

  step5 : m ≡ mesh5 t v m
  unfolding mesh5 is_low
  step5 =
      let f = not-true (is_low t.threshold v.ask v.scores m) tests.1 in
      rw f

  pub still_meshes : m ≡ mesh1 v → still_of m ≡ meshes n t v
  still_meshes e₁ =
      meshes_are n t v e₁ (mesh2_else t v m refl lo) (mesh3_else t v m refl n hi) step4 step5

-- ---- the members' scores alone
module _ (x : ℕ) where
  pub goods_same :
      (m : List Bool) (a b : List ℕ) →
      length a ≡ length b →
      ((s : ℕ) → at m s ≡ true → get_or a s 0 ≡ get_or b s 0) →
      both m (from x a) ≡ both m (from x b)
  unfolding both from
  goods_same [] a b l h = refl
  goods_same (y ∷ m) [] [] l h = refl
  goods_same (y ∷ m) [] (v ∷ b) l h = absurd (omega arith)
  goods_same (y ∷ m) (u ∷ a) [] l h = absurd (omega arith)
  goods_same (true ∷ m) (u ∷ a) (v ∷ b) l h =
      ap₂ (λ (p : Bool) (q : List Bool). p ∷ q) (ap (leb x) (h 0 refl)) (goods_same m a b (omega arith) (λ s e. h (suc s) e))
  goods_same (false ∷ m) (u ∷ a) (v ∷ b) l h = ap (λ (q : List Bool). false ∷ q) (goods_same m a b (omega arith) (λ s e. h (suc s) e))

scores_same :
    (m : List Bool) (a b : List ℕ) →
    length a ≡ length b →
    ((s : ℕ) → at m s ≡ true → get_or a s 0 ≡ get_or b s 0) →
    scores_of m a ≡ scores_of m b
unfolding scores_of
scores_same [] a b l h = refl
scores_same (y ∷ m) [] [] l h = refl
scores_same (y ∷ m) [] (v ∷ b) l h = absurd (omega arith)
scores_same (y ∷ m) (u ∷ a) [] l h = absurd (omega arith)
scores_same (true ∷ m) (u ∷ a) (v ∷ b) l h =
    ap₂ (λ (p : ℕ) (q : List ℕ). p ∷ q) (h 0 refl) (scores_same m a b (omega arith) (λ s e. h (suc s) e))
scores_same (false ∷ m) (u ∷ a) (v ∷ b) l h = scores_same m a b (omega arith) (λ s e. h (suc s) e)

pub still_same :
    (t : Degrees) (outbound : List Bool) (ask : Bool) (m : List Bool) (a b : List ℕ) →
    length a ≡ length b →
    ((s : ℕ) → at m s ≡ true → get_or a s 0 ≡ get_or b s 0) →
    is_still t outbound ask a m ≡ is_still t outbound ask b m
unfolding is_still is_low median
still_same t outbound ask m a b l h = rw (scores_same m a b l h)

-- what the members' scores tell: the mesh of step 1, and that it is still
module _ (n : ℕ) (t : Degrees) (v : View) (a : List ℕ) (l : length a ≡ length v.scores)
    (h : (s : ℕ) → at v.members s ≡ true → get_or a s 0 ≡ get_or v.scores s 0) where
  pub still_by_members :
      (m : List Bool) →
      m ≡ both v.members (from zero_score a) →
      is_still t v.outbound v.ask a m ≡ true →
      still_of m ≡ meshes n t v
  unfolding mesh1
  still_by_members m em e =
      let first = em ∙ goods_same zero_score v.members a v.scores l h in
      let sub : (s : ℕ) → at m s ≡ true → get_or a s 0 ≡ get_or v.scores s 0 =
      λ s q. h s (both_left v.members (from zero_score v.scores) s (ap (λ (x : List Bool). at x s) (sym first) ∙ q)) in
      still_meshes n t v m (sym (still_same t v.outbound v.ask m a v.scores l sub) ∙ e) first
