-- A better score never loses the place, of the five steps (02, order 13). A slot that ends as a member is good in both views, so steps 1
-- and 2 leave the same mesh. Is it not in it, all later steps agree; is it in it, only step 3 can take it out, and there it is kept
-- (StepThree). Assumes nothing.
use Prim.Native.Nat.{ℕ, suc, ◌+◌, ◌-◌, ◌/◌, ◌≤◌}
use native.Mathlib.Nat.{suc_inj}
use native.Mathlib.Omega.{arith}
use mathlib.Core.Path.{◌≡◌, refl, sym, ap, ap₂, ◌∙◌, subst}
use mathlib.Core.Bool.{Bool, true, false, cond, ◌&&◌, false≢true}
use mathlib.Core.Logic.{⊎_elim}
use mathlib.Core.List.{List, [], ◌∷◌}
use lib.ListN.{length, get_or}
use lib.Seq.{ext_get_or}
use lib.Dec.{ltb, leb, eqb}
use borrow.Author.Tests.{le-leb, leb-true, eqb-true, eqb-false}
use Rattle.index.proofs.Flags.{by_test, by_order}
use Rattle.sets.specs.Sets.{at, Sub, size, both, from, above, fill, scores_of, sort}
use Rattle.sets.proofs.WalkLaws.{at_below, at_past, from_at, from_length, above_is}
use Rattle.sets.proofs.CountLaws.{fill_only}
use Rattle.sets.proofs.SetLaws.{both_left, both_right}
use Rattle.mesh.specs.Maintenance.{zero_score, goods, mesh1, mesh2, mesh3, mesh4, median, mesh5, meshes, maintained, Rules}
use Rattle.mesh.specs.declared.Degrees.{Degrees}
use Rattle.mesh.specs.Maintenance.{View}
use Rattle.monotone.specs.Better.{Better}
use Rattle.mesh.proofs.Bound.{two_small, three_idle}
use Rattle.mesh.proofs.MaintenanceLaws.{Adds, Keeps, len1, adds2, keeps3, adds4, adds5, maintained_keeps}
use Rattle.monotone.proofs.StepThree.{again, kept3, same3}

-- two sets that agree at x and elsewhere are one
one_set :
    (x : ℕ) (a b : List Bool) →
    length a ≡ length b →
    ((s : ℕ) → (s ≡ x → ⊥) → at a s ≡ at b s) →
    at a x ≡ at b x →
    a ≡ b
one_set x a b l off here =
    ext_get_or false a b l
    (λ s h.
    by_test _ (eqb s x)
    (λ q. let e = eqb-true s x q in ap (at a) e ∙ here ∙ ap (at b) (sym e))
    (λ q. off s (eqb-false s x q)))

-- the slots with a score of at least k: x was one of them, and its score is no less
from_one :
    (x k : ℕ) (sc sc' : List ℕ) →
    length sc' ≡ length sc →
    ((s : ℕ) → (s ≡ x → ⊥) → get_or sc' s 0 ≡ get_or sc s 0) →
    get_or sc x 0 ≤ get_or sc' x 0 →
    at (from k sc) x ≡ true →
    from k sc' ≡ from k sc
from_one x k sc sc' l off up a =
    let f = from_length k sc in
    let f' = from_length k sc' in
    let lt = at_below (from k sc) x a in
    one_set x (from k sc') (from k sc) (omega arith)
    (λ s ns.
    by_order (at (from k sc') s ≡ at (from k sc) s) s (length sc)
    (λ h. from_at k sc' s (omega arith) ∙ ap (leb k) (off s ns) ∙ sym (from_at k sc s h))
    (λ h. at_past (from k sc') s (omega arith) ∙ sym (at_past (from k sc) s (omega arith))))
    (from_at k sc' x (omega arith)
    ∙ le-leb k (get_or sc' x 0) (let h = leb-true k (get_or sc x 0) (sym (from_at k sc x (omega arith)) ∙ a) in omega arith)
    ∙ sym a)

-- scores that agree on a set
same_scores :
    (m : List Bool) (sc sc' : List ℕ) →
    length sc' ≡ length sc →
    ((s : ℕ) → at m s ≡ true → get_or sc' s 0 ≡ get_or sc s 0) →
    scores_of m sc' ≡ scores_of m sc
unfolding scores_of
same_scores [] sc sc' l h = refl
same_scores (b ∷ m) [] [] l h = refl
same_scores (b ∷ m) [] (u ∷ sc') l h = let z : ⊥ = omega arith in absurd z
same_scores (b ∷ m) (v ∷ sc) [] l h = let z : ⊥ = omega arith in absurd z
same_scores (true ∷ m) (v ∷ sc) (u ∷ sc') l h =
    ap₂ (λ (y : ℕ) (r : List ℕ). y ∷ r) (h 0 refl) (same_scores m sc sc' (suc_inj l) (λ s. h (suc s)))
same_scores (false ∷ m) (v ∷ sc) (u ∷ sc') l h = same_scores m sc sc' (suc_inj l) (λ s. h (suc s))

mesh1_left : (v : View) → Sub (mesh1 v) v.members
unfolding mesh1
mesh1_left v = both_left v.members (goods v)

module _
    (n : ℕ) (t : Degrees) (v : View) (sc' : List ℕ) (c' : List Bool) (ru : Rules t) (x : ℕ) (be : Better n x v (again v sc' c'))
    (here : at (maintained n t v) x ≡ true) where
  abbrev v' : View
  v' = again v sc' c'

  abbrev m₁ : List Bool
  m₁ = mesh1 v

  abbrev m₂ : List Bool
  m₂ = mesh2 t v m₁

  abbrev m₃ : List Bool
  m₃ = mesh3 n t v m₂

  abbrev m₄ : List Bool
  m₄ = mesh4 t v m₃

  l₁ : length m₁ ≡ n
  l₁ = len1 n t v ru be.whole

  a₂ : Adds n v m₁ m₂
  a₂ = adds2 n t v ru be.whole m₁ l₁

  k₃ : Keeps n t v m₂ m₃
  k₃ = keeps3 n t v ru be.whole m₂ a₂.len

  a₄ : Adds n v m₃ m₄
  a₄ = adds4 n t v ru be.whole m₃ k₃.len

  a₅ : Adds n v m₄ (mesh5 t v m₄)
  a₅ = adds5 n t v ru be.whole m₄ a₄.len

  in5 : at (mesh5 t v m₄) x ≡ true
  unfolding meshes
  in5 = here

  -- x is good in both
  good : at (goods v) x ≡ true
  good = (maintained_keeps n t v ru be.whole).only x here

  good_same : goods v' ≡ goods v
  good_same =
      from_one x zero_score v.scores sc' (be.whole'.scores ∙ sym be.whole.scores) be.scores be.no_less good

  mesh1_same : mesh1 v' ≡ mesh1 v
  unfolding mesh1
  mesh1_same = ap (both v.members) good_same

  member_no_candidate : at v.members x ≡ true → at c' x ≡ false
  member_no_candidate a = by_test _ (at c' x) (λ e. absurd (be.apart x a e)) (λ e. e)

  candidates_same : c' ≡ v.candidates
  candidates_same =
      one_set x c' v.candidates (be.whole'.candidates ∙ sym be.whole.candidates) be.candidates
      (⊎_elim
      (λ a.
      let no = member_no_candidate (both_left v.members (goods v) x a) in
      no ∙ sym (by_test _ (at v.candidates x) (λ e. absurd (false≢true (sym no ∙ be.candidate e))) (λ e. e)))
      (λ a. be.candidate a ∙ sym a)
      ((maintained_keeps n t v ru be.whole).pool x here))

  mesh2_same : mesh2 t v' (mesh1 v') ≡ m₂
  unfolding mesh2
  mesh2_same =
      ap₂ (λ (m c : List Bool). cond (ltb (size m) t.lo) (fill c (t.d - size m) v.permutation m) m) mesh1_same
      candidates_same

  mesh4_same : (m : List Bool) → mesh4 t v' m ≡ mesh4 t v m
  unfolding mesh4
  mesh4_same m =
      ap (λ (c : List Bool). fill (both c v.outbound) (t.out - size (both m v.outbound)) v.permutation m)
      candidates_same

  -- what step 3 keeps in the second stays to the end
  stays : at (mesh3 n t v' m₂) x ≡ true → at (maintained n t v') x ≡ true
  unfolding meshes
  stays a =
      let q₁ = len1 n t v' ru be.whole' in
      let q₂ = adds2 n t v' ru be.whole' (mesh1 v') q₁ in
      let q₃ = keeps3 n t v' ru be.whole' (mesh2 t v' (mesh1 v')) q₂.len in
      let q₄ = adds4 n t v' ru be.whole' (mesh3 n t v' (mesh2 t v' (mesh1 v'))) q₃.len in
      let q₅ =
      adds5 n t v' ru be.whole' (mesh4 t v' (mesh3 n t v' (mesh2 t v' (mesh1 v')))) q₄.len in
      q₅.sub x (q₄.sub x (ap (λ (z : List Bool). at (mesh3 n t v' z) x) mesh2_same ∙ a))

  -- step 3 kept x, if x was there
  kept : at m₂ x ≡ true → at m₃ x ≡ true
  kept a =
      ⊎_elim
      (λ idle. ap (λ (z : List Bool). at z x) idle ∙ a)
      (λ over.
      let member : at m₂ x ≡ true → at v.candidates x ≡ true → ⊥ = λ b c.
      ⊎_elim
      (λ e.
      be.apart x (mesh1_left v x (subst (λ (z : List Bool). at z x ≡ true) e b)) (be.candidate c))
      (λ small. let z : ⊥ = omega arith in z)
      (two_small t v ru m₁) in
      ⊎_elim
      (λ b. ⊎_elim (λ c. c) (λ c. absurd (member a c)) (a₄.only x b))
      (λ c. absurd (member a c))
      (a₅.only x in5))
      (three_idle n t v m₂)

  -- x comes in at step 5: the median is the same
  module _ (out : at m₄ x ≡ false) where
    median_same : median m₄ sc' ≡ median m₄ v.scores
    unfolding median
    median_same =
        ap (λ (l : List ℕ). get_or (sort l) (size m₄ / 2) 0)
        (same_scores m₄ v.scores sc' (be.whole'.scores ∙ sym be.whole.scores)
        (λ s a. be.scores s (λ e. false≢true (sym out ∙ ap (at m₄) (sym e) ∙ a))))

    above_same : (k : ℕ) → at (above k v.scores) x ≡ true → above k sc' ≡ above k v.scores
    above_same k a =
        above_is k sc'
        ∙ from_one x (k + 1) v.scores sc' (be.whole'.scores ∙ sym be.whole.scores) be.scores be.no_less
        (ap (λ (p : List Bool). at p x) (sym (above_is k v.scores)) ∙ a)
        ∙ sym (above_is k v.scores)

    -- with the same peers above it
    enters : at (mesh5 t v' m₄) x ≡ true
    unfolding mesh5
    enters =
        ap (λ (k : ℕ). at (five c' sc' k) x) median_same
        ∙ ap (λ (c : List Bool). at (five c sc' (median m₄ v.scores)) x) candidates_same
        ∙ go (v.ask && leb 2 (size m₄) && ltb (median m₄ v.scores) t.threshold) in5
      where
        five : List Bool → List ℕ → ℕ → List Bool
        five c sc k =
            cond (v.ask && leb 2 (size m₄) && ltb k t.threshold) (fill (both c (above k sc)) 2 v.permutation m₄) m₄

        k : ℕ
        k = median m₄ v.scores

        go :
            (a : Bool) →
            at (cond a (fill (both v.candidates (above k v.scores)) 2 v.permutation m₄) m₄) x ≡ true →
            at (cond a (fill (both v.candidates (above k sc')) 2 v.permutation m₄) m₄) x ≡ true
        go false e = e
        go true e =
            ⊎_elim
            (λ a. absurd (false≢true (sym out ∙ a)))
            (λ a.
            ap (λ (h : List Bool). at (fill (both v.candidates h) 2 v.permutation m₄) x)
            (above_same k (both_right v.candidates (above k v.scores) x a))
            ∙ e)
            (fill_only (both v.candidates (above k v.scores)) v.permutation 2 m₄ x e)

  -- step 3 is the same
  fifth_same : mesh3 n t v' m₂ ≡ m₃ → at (maintained n t v') x ≡ true
  unfolding meshes
  fifth_same e =
      ap (λ (m : List Bool). at (mesh5 t v' (mesh4 t v' (mesh3 n t v' m))) x) mesh2_same
      ∙ ap (λ (m : List Bool). at (mesh5 t v' (mesh4 t v' m)) x) e
      ∙ ap (λ (m : List Bool). at (mesh5 t v' m) x) (mesh4_same m₃)
      ∙ by_test _ (at m₄ x)
      (λ a. (adds5 n t v' ru be.whole' m₄ a₄.len).sub x a)
      (λ a. enters a)

  place : at (maintained n t v') x ≡ true
  place =
      by_test _ (at m₂ x)
      (λ a.
      stays
      (kept3 n t v sc' c' ru be.whole be.whole' x be.low be.scores be.no_less m₂ a₂.len (kept a)))
      (λ a. fifth_same (same3 n t v sc' c' ru be.whole be.whole' x be.low be.scores be.no_less m₂ a₂.len a))

-- "If that peer is a member after the first tidy, it is one after the second."
pub better_stays :
    (n : ℕ) (t : Degrees) (v v' : View) (x : ℕ) →
    Rules t →
    Better n x v v' →
    at (maintained n t v) x ≡ true →
    at (maintained n t v') x ≡ true
better_stays n t v v' x ru be here =
    subst (λ (u : View). at (maintained n t u) x ≡ true) (sym e)
    (place n t v v'.scores v'.candidates ru x (subst (Better n x v) e be) here)
  where
    view : List Bool → List Bool → List ℕ → Bool → View
    view m o p a =
        record { members = m; candidates = v'.candidates; outbound = o; scores = v'.scores; permutation = p; ask = a }

    same : {m m' o o' : List Bool} {p p' : List ℕ} {a a' : Bool} → m' ≡ m → o' ≡ o → p' ≡ p → a' ≡ a → view m' o' p' a' ≡ view m o p a
    same e₁ e₂ e₃ e₄ = cc

    e : v' ≡ again v v'.scores v'.candidates
    e = same be.members be.outbound be.permutation be.ask
