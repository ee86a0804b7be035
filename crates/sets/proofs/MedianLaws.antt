-- The element at index k of a sorted list is the greatest that has at most k elements below it; so the median of a set's scores is found by
-- counting, with no sorting.
-- Assumes nothing.
use Prim.Native.Nat.{ℕ, zero, suc, ◌+◌, ◌≤◌, ◌<◌}
use native.Mathlib.Nat.{not-suc-le-zero, le_of_suc-le-suc, suc_inj}
use native.Mathlib.Omega.{arith}
use mathlib.Core.Path.{◌≡◌, refl, sym, ap, ◌∙◌, subst}
use mathlib.Core.Bool.{Bool, true, false, not, cond, ◌&&◌, false≢true}
use mathlib.Core.Logic.{◌⊎◌, inl, inr, ⊎_elim}
use mathlib.Core.List.{List, [], ◌∷◌}
use lib.ListN.{length, get_or}
use lib.Dec.{ltb, leb}
use borrow.Author.Tests.{lt-ltb, le-ltb, le-leb, lt-leb, ltb-true, ltb-false, leb-true, leb-false}
use borrow.Author.Count.{below_more}
use Rattle.index.proofs.Index.{both as halves}
use Rattle.index.proofs.Flags.{by_test, by_order}
use Rattle.sets.specs.Sets.{at, size, except, from, insert, sort, scores_of}
use Rattle.sets.proofs.WalkLaws.{at_below}
use Rattle.sets.proofs.CountLaws.{In}

-- how many elements are below x
abbrev lower : ℕ → List ℕ → ℕ
lower x [] = zero
lower x (y ∷ l) = cond (ltb y x) (suc (lower x l)) (lower x l)

module _ (x y : ℕ) (l : List ℕ) where
  lower_in : y < x → lower x (y ∷ l) ≡ suc (lower x l)
  lower_in h = rw (lt-ltb y x h)

  lower_out : x ≤ y → lower x (y ∷ l) ≡ lower x l
  lower_out h = rw (le-ltb y x h)

-- ---- a count of a list that is the sum over its elements is the same of the sorted list
module _ (μ : List ℕ → ℕ) (w : ℕ → ℕ) (one : (y : ℕ) (l : List ℕ) → μ (y ∷ l) ≡ w y + μ l) where
  insert_count : (y : ℕ) (l : List ℕ) → μ (insert y l) ≡ w y + μ l
  unfolding insert
  insert_count y [] = one y []
  insert_count y (z ∷ l) =
      by_test _ (leb y z)
      (λ e. ap (λ (b : Bool). μ (cond b (y ∷ z ∷ l) (z ∷ insert y l))) e ∙ one y (z ∷ l))
      (λ e.
      let a = ap (λ (b : Bool). μ (cond b (y ∷ z ∷ l) (z ∷ insert y l))) e in
      let b = one z (insert y l) in
      let c = insert_count y l in
      let d = one z l in
      omega arith)

  sort_count : (l : List ℕ) → μ (sort l) ≡ μ l
  unfolding sort
  sort_count [] = refl
  sort_count (y ∷ l) =
      let a = insert_count y (sort l) in
      let b = one y l in
      let c = sort_count l in
      omega arith

sort_lower : (x : ℕ) (l : List ℕ) → lower x (sort l) ≡ lower x l
sort_lower x l = sort_count (lower x) (λ y. cond (ltb y x) 1 0) (λ y k. one (ltb y x) (lower x k)) l
  where
    one : (b : Bool) (n : ℕ) → cond b (suc n) n ≡ cond b 1 0 + n
    one true n = omega arith
    one false n = omega arith

sort_length : (l : List ℕ) → length (sort l) ≡ length l
sort_length l = sort_count length (λ y. 1) (λ y k. omega arith) l

-- ---- sorted
abbrev Sorted : List ℕ → Type 0
Sorted [] = Unit {0}
Sorted (x ∷ l) = ((z : ℕ) → In z l → x ≤ z) × Sorted l

insert_mem : (y : ℕ) (l : List ℕ) (z : ℕ) → In z (insert y l) → (z ≡ y) ⊎ In z l
unfolding insert
insert_mem y [] z h = h
insert_mem y (x ∷ l) z h = go (insert_mem y l z) (leb y x) h
  where
    go :
        (In z (insert y l) → (z ≡ y) ⊎ In z l) →
        (b : Bool) →
        In z (cond b (y ∷ x ∷ l) (x ∷ insert y l)) →
        (z ≡ y) ⊎ In z (x ∷ l)
    go ih true k = k
    go ih false k = ⊎_elim (λ q. inr (inl q)) (λ j. ⊎_elim (λ q. inl q) (λ i. inr (inr i)) (ih j)) k

insert_sorted : (y : ℕ) (l : List ℕ) → Sorted l → Sorted (insert y l)
unfolding insert
insert_sorted y [] s = (λ z i. absurd i, tt)
insert_sorted y (x ∷ l) s = go (insert_sorted y l s.1) (leb y x) refl
  where
    go : Sorted (insert y l) → (b : Bool) → leb y x ≡ b → Sorted (cond b (y ∷ x ∷ l) (x ∷ insert y l))
    go ih true e = let h = leb-true y x e in (λ z i. ⊎_elim (λ q. omega arith) (λ j. let k = s.0 z j in omega arith) i, s)
    go ih false e =
        let h = leb-false y x e in
        (λ z i. ⊎_elim (λ q. omega arith) (λ j. s.0 z j) (insert_mem y l z i), ih)

sort_sorted : (l : List ℕ) → Sorted (sort l)
unfolding sort
sort_sorted [] = tt
sort_sorted (x ∷ l) = insert_sorted x (sort l) (sort_sorted l)

sort_mem : (l : List ℕ) (z : ℕ) → In z (sort l) → In z l
unfolding sort
sort_mem [] z h = h
sort_mem (x ∷ l) z h = ⊎_elim (λ q. inl q) (λ i. inr (sort_mem l z i)) (insert_mem x (sort l) z h)

get_or_mem : (l : List ℕ) (k : ℕ) → k < length l → In (get_or l k 0) l
get_or_mem [] k h = absurd (not-suc-le-zero h)
get_or_mem (x ∷ l) zero h = inl refl
get_or_mem (x ∷ l) (suc k) h = inr (get_or_mem l k (le_of_suc-le-suc h))

none_lower : (x : ℕ) (l : List ℕ) → ((z : ℕ) → In z l → x ≤ z) → lower x l ≡ 0
none_lower x [] h = refl
none_lower x (y ∷ l) h = lower_out x y l (h y (inl refl)) ∙ none_lower x l (λ z i. h z (inr i))

-- the element at k has at most k below it, and what is greater has more than k
at_lower : (l : List ℕ) → Sorted l → (k : ℕ) → k < length l → lower (get_or l k 0) l ≤ k
at_lower [] s k h = absurd (not-suc-le-zero h)
at_lower (x ∷ l) s zero h = omega (arith, lower_out x x l (omega arith), none_lower x l s.0)
at_lower (x ∷ l) s (suc k) h =
    let v = get_or l k 0 in
    let ih = at_lower l s.1 k (le_of_suc-le-suc h) in
    by_order _ x v
    (λ p. let e = lower_in v x l p in omega arith)
    (λ p. let e = lower_out v x l p in omega arith)

past_lower : (l : List ℕ) → Sorted l → (k y : ℕ) → k < length l → get_or l k 0 < y → k < lower y l
past_lower [] s k y h p = absurd (not-suc-le-zero h)
past_lower (x ∷ l) s zero y h p = omega (arith, lower_in y x l p)
past_lower (x ∷ l) s (suc k) y h p =
    let lt : k < length l = le_of_suc-le-suc h in
    let ih = past_lower l s.1 k y lt p in
    let xv = s.0 (get_or l k 0) (get_or_mem l k lt) in
    omega (arith, lower_in y x l (omega arith))

-- ---- on sets of slots

not_leb : (x v : ℕ) → not (leb x v) ≡ ltb v x
not_leb x v = by_order _ v x
    (λ p. ap not (lt-leb x v p) ∙ sym (lt-ltb v x p))
    (λ p. ap not (le-leb x v p) ∙ sym (le-ltb v x p))

size_cons : (b : Bool) (m : List Bool) → size (b ∷ m) ≡ cond b (suc (size m)) (size m)
unfolding size
size_cons true m = refl
size_cons false m = refl

-- the members whose score is below x, counted
lower_size :
    (x : ℕ) (m : List Bool) (sc : List ℕ) →
    length m ≡ length sc →
    size (except m (from x sc)) ≡ lower x (scores_of m sc)
unfolding size except scores_of from
lower_size x [] sc e = refl
lower_size x (true ∷ m) [] e = let z : ⊥ = omega arith in absurd z
lower_size x (false ∷ m) [] e = let z : ⊥ = omega arith in absurd z
lower_size x (true ∷ m) (v ∷ sc) e =
    ap (λ (b : Bool). size (b ∷ except m (from x sc))) (not_leb x v)
    ∙ size_cons (ltb v x) (except m (from x sc))
    ∙ ap (λ (k : ℕ). cond (ltb v x) (suc k) k) (lower_size x m sc (suc_inj e))
lower_size x (false ∷ m) (v ∷ sc) e = lower_size x m sc (suc_inj e)

scores_length : (m : List Bool) (sc : List ℕ) → length m ≡ length sc → length (scores_of m sc) ≡ size m
unfolding size scores_of
scores_length [] sc e = refl
scores_length (true ∷ m) [] e = let z : ⊥ = omega arith in absurd z
scores_length (false ∷ m) [] e = let z : ⊥ = omega arith in absurd z
scores_length (true ∷ m) (v ∷ sc) e = ap suc (scores_length m sc (suc_inj e))
scores_length (false ∷ m) (v ∷ sc) e = scores_length m sc (suc_inj e)

-- what holds of each member's score holds of each of these scores
scores_all :
    (P : ℕ → Type 0) (m : List Bool) (sc : List ℕ) →
    ((j : ℕ) → at m j ≡ true → P (get_or sc j 0)) →
    (x : ℕ) →
    In x (scores_of m sc) →
    P x
unfolding scores_of
scores_all P [] sc h x i = absurd i
scores_all P (b ∷ m) [] h x i = absurd i
scores_all P (true ∷ m) (v ∷ sc) h x i =
    ⊎_elim (λ q. subst P (sym q) (h 0 refl)) (scores_all P m sc (λ j. h (suc j)) x) i
scores_all P (false ∷ m) (v ∷ sc) h x i = scores_all P m sc (λ j. h (suc j)) x i

-- at most k of the members' scores are below x
abbrev pub few : ℕ → List Bool → List ℕ → ℕ → Bool
few k m sc x = leb (size (except m (from x sc))) k

-- What the search keeps before slot i: r has few below it, and of the members' scores passed that have few below them none is above r.
pub record Kept (k : ℕ) (m : List Bool) (sc : List ℕ) (i r : ℕ) : Type 0 where
  pub low : few k m sc r ≡ true
  pub most : (j : ℕ) → j < i → at m j ≡ true → few k m sc (get_or sc j 0) ≡ true → get_or sc j 0 ≤ r

module _ (k : ℕ) (m : List Bool) (sc : List ℕ) (len : length m ≡ length sc) where
  pub kept_none : Kept k m sc 0 0
  kept_none =
      record {
        low = le-leb _ k (omega (arith, lower_size 0 m sc len, none_lower 0 (scores_of m sc) (λ z i. omega arith)));
        most = λ j h. absurd (not-suc-le-zero h);
      }

  -- at the end it is the element at k of the sorted scores
  pub kept_all : k < size m → (i r : ℕ) → length m ≤ i → Kept k m sc i r → r ≡ get_or (sort (scores_of m sc)) k 0
  kept_all h i r end b =
      let l = scores_of m sc in
      let s = sort l in
      let x = get_or s k 0 in
      let lt : k < length s = omega (arith, sort_length l, scores_length m sc len) in
      let few-x : few k m sc x ≡ true =
      le-leb _ k (omega (arith, lower_size x m sc len, sort_lower x l, at_lower s (sort_sorted l) k lt)) in
      let up : x ≤ r =
      scores_all (λ (z : ℕ). few k m sc z ≡ true → z ≤ r) m sc
      (λ j a. let p = at_below m j a in b.most j (omega arith) a)
      x
      (sort_mem l x (get_or_mem s k lt))
      few-x in
      by_order _ x r
      (λ p.
      let z : ⊥ =
      omega (
        arith,
        leb-true _ k b.low,
        lower_size r m sc len,
        sort_lower r l,
        past_lower s (sort_sorted l) k r lt p,
      ) in
      absurd z)
      (λ p. omega arith)

-- one turn, at slot i: its score is no member's or not above r; or too many are below it; or it is taken
module _ (k : ℕ) (m : List Bool) (sc : List ℕ) (i r q : ℕ) (b : Kept k m sc i r) where
  more :
      few k m sc q ≡ true →
      r ≤ q →
      (at m i ≡ true → few k m sc (get_or sc i 0) ≡ true → get_or sc i 0 ≤ q) →
      Kept k m sc (i + 1) q
  more f h here =
      record {
        low = f;
        most =
            below_more (λ (j : ℕ). at m j ≡ true → few k m sc (get_or sc j 0) ≡ true → get_or sc j 0 ≤ q) i
            (λ j lt a e. let p = b.most j lt a e in omega arith)
            here;
      }

  pub kept_passed : q ≡ r → (at m i && ltb r (get_or sc i 0)) ≡ false → Kept k m sc (i + 1) q
  kept_passed e t =
      more (rw e b.low) (omega arith)
      (λ a f. rw e (ltb-false r (get_or sc i 0) (sym (ap (λ (z : Bool). z && ltb r (get_or sc i 0)) a) ∙ t)))

  pub kept_many : q ≡ r → few k m sc (get_or sc i 0) ≡ false → Kept k m sc (i + 1) q
  kept_many e t = more (rw e b.low) (omega arith) (λ a f. absurd (false≢true (sym t ∙ f)))

  pub kept_taken :
      q ≡ get_or sc i 0 →
      (at m i && ltb r (get_or sc i 0)) ≡ true →
      few k m sc (get_or sc i 0) ≡ true →
      Kept k m sc (i + 1) q
  kept_taken e t f =
      let h = ltb-true r (get_or sc i 0) (halves (at m i) (ltb r (get_or sc i 0)) t).1 in
      more (rw e f) (omega arith) (λ a u. omega arith)
