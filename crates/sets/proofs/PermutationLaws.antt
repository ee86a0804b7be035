-- Laws of orders and permutations: each slot stands in a permutation, once; and the flags of the slots seen, counted, tell a permutation.
-- Assumes nothing.
use Prim.Native.Nat.{ℕ, zero, suc, ◌+◌, ◌≤◌, ◌<◌}
use native.Mathlib.Nat.{not-suc-le-zero, le_of_suc-le-suc, eq-or-lt_of_le, suc_inj}
use native.Mathlib.Omega.{arith}
use mathlib.Core.Path.{◌≡◌, refl, sym, ap, ap₂, ◌∙◌, subst}
use mathlib.Core.Bool.{Bool, true, false, cond, ◌&&◌, false≢true}
use mathlib.Core.Logic.{◌⊎◌, inl, inr, ⊎_elim}
use mathlib.Core.List.{List, [], ◌∷◌}
use lib.ListN.{length, get_or, set, drop, drop_of_length-le, length-set, replicate, length-replicate}
use lib.Dec.{eqb}
use borrow.Author.Tests.{eq-eqb, ne_eqb, eqb-true}
use Rattle.index.specs.Index.{every}
use Rattle.index.proofs.Index.{both as halves, every_at, every_by}
use Rattle.index.proofs.Flags.{by_test}
use Rattle.sets.specs.Sets.{at, Sub, size, occurs, is_permutation, ascending}
use Rattle.sets.proofs.Loops.{drop_step}
use Rattle.sets.proofs.CountLaws.{In, at_set_same, set_keeps, set_only}
use Rattle.sets.proofs.SetLaws.{at_none}

-- ---- how often a slot occurs
pub occurs_cons :
    (s x : ℕ) (r : List ℕ) (t : Bool) → eqb x s ≡ t → occurs s (x ∷ r) ≡ cond t (suc (occurs s r)) (occurs s r)
unfolding occurs
occurs_cons s x r t e = ap (λ (b : Bool). cond b (suc (occurs s r)) (occurs s r)) e

pub occurs_self : (x : ℕ) (r : List ℕ) → occurs x (x ∷ r) ≡ suc (occurs x r)
occurs_self x r = occurs_cons x x r true (eq-eqb x x refl)

pub occurs_tail : (s x : ℕ) (r : List ℕ) → occurs s r ≤ occurs s (x ∷ r)
occurs_tail s x r =
    by_test _ (eqb x s)
    (λ t. let e = occurs_cons s x r true t in omega arith)
    (λ t. let e = occurs_cons s x r false t in omega arith)

occurs_mem : (s : ℕ) (d : List ℕ) → 0 < occurs s d → In s d
unfolding occurs
occurs_mem s [] h = absurd (not-suc-le-zero h)
occurs_mem s (x ∷ d) h =
    by_test _ (eqb x s)
    (λ t. inl (sym (eqb-true x s t)))
    (λ t. inr (occurs_mem s d (subst (λ (k : ℕ). 0 < k) (occurs_cons s x d false t) h)))

-- ---- what a permutation has
module _ (n : ℕ) (d : List ℕ) (e : is_permutation n d ≡ true) where
  parts : (eqb (length d) n ≡ true) × (every n (λ s. eqb (occurs s d) 1) ≡ true)
  unfolding is_permutation
  parts = halves (eqb (length d) n) (every n (λ s. eqb (occurs s d) 1)) e

  pub permutation_once : (s : ℕ) → s < n → occurs s d ≡ 1
  permutation_once s h = eqb-true (occurs s d) 1 (every_at (λ k. eqb (occurs k d) 1) n s parts.1 h)

  pub permutation_mem : (s : ℕ) → s < n → In s d
  permutation_mem s h = let q = permutation_once s h in occurs_mem s d (omega arith)

pub not_long : (n : ℕ) (d : List ℕ) → (length d ≡ n → ⊥) → is_permutation n d ≡ false
unfolding is_permutation
not_long n d h = ap (λ (b : Bool). b && every n (λ s. eqb (occurs s d) 1)) (ne_eqb (length d) n h)

-- ---- the flags of the slots seen
unfoldable pub marked : List ℕ → List Bool → List Bool
marked [] m = m
marked (s ∷ r) m = marked r (set m s true)

pub marked_step :
    (d : List ℕ) (i : ℕ) (m : List Bool) →
    i < length d →
    marked (drop i d) m ≡ marked (drop (i + 1) d) (set m (get_or d i 0) true)
unfolding marked
marked_step d i m h = ap (λ (l : List ℕ). marked l m) (drop_step 0 d i h)

pub marked_end : (d : List ℕ) (i : ℕ) (m : List Bool) → length d ≤ i → marked (drop i d) m ≡ m
unfolding marked
marked_end d i m h = rw (drop_of_length-le d {i = i} h)

marked_length : (d : List ℕ) (m : List Bool) → length (marked d m) ≡ length m
unfolding marked
marked_length [] m = refl
marked_length (s ∷ r) m = marked_length r (set m s true) ∙ length-set m s true

marked_sub : (d : List ℕ) (m : List Bool) → Sub m (marked d m)
unfolding marked
marked_sub [] m x e = e
marked_sub (s ∷ r) m x e = marked_sub r (set m s true) x (set_keeps m s x e)

marked_in : (d : List ℕ) (m : List Bool) (x : ℕ) → In x d → x < length m → at (marked d m) x ≡ true
unfolding marked
marked_in [] m x i h = absurd i
marked_in (s ∷ r) m x i h =
    ⊎_elim
    (λ q. marked_sub r (set m s true) x (ap (at (set m s true)) q ∙ at_set_same m s (subst (λ (k : ℕ). k < length m) q h)))
    (λ j. marked_in r (set m s true) x j (let l = length-set m s true in omega arith))
    i

marked_only :
    (d : List ℕ) (m : List Bool) (x : ℕ) → at (marked d m) x ≡ true → (at m x ≡ true) ⊎ (0 < occurs x d)
unfolding marked
marked_only [] m x e = inl e
marked_only (s ∷ r) m x e =
    ⊎_elim
    (λ a.
    ⊎_elim
    (λ b. inl b)
    (λ q. let o = occurs_self x r in inr (subst (λ (k : ℕ). 0 < occurs x (k ∷ r)) q (omega arith)))
    (set_only m s x a))
    (λ a. let o = occurs_tail x s r in inr (omega arith))
    (marked_only r (set m s true) x e)

-- a set is full where its count is its length
size_bound : (m : List Bool) → size m ≤ length m
unfolding size
size_bound [] = omega arith
size_bound (true ∷ m) = let h = size_bound m in omega arith
size_bound (false ∷ m) = let h = size_bound m in omega arith

full_size : (m : List Bool) → ((s : ℕ) → s < length m → at m s ≡ true) → size m ≡ length m
unfolding size
full_size [] h = refl
full_size (true ∷ m) h = ap suc (full_size m (λ s l. h (suc s) (omega arith)))
full_size (false ∷ m) h = absurd (false≢true (h 0 (omega arith)))

size_full : (m : List Bool) → size m ≡ length m → (s : ℕ) → s < length m → at m s ≡ true
unfolding size
size_full [] e s h = absurd (not-suc-le-zero h)
size_full (true ∷ m) e zero h = refl
size_full (true ∷ m) e (suc s) h = size_full m (suc_inj e) s (le_of_suc-le-suc h)
size_full (false ∷ m) e s h = let b = size_bound m in let z : ⊥ = omega arith in absurd z

-- how often the slots below n occur, all in all: no more often than the order is long, so that each occurs once where each occurs
total : ℕ → List ℕ → ℕ
total zero d = 0
total (suc n) d = total n d + occurs n d

total_past : (n x : ℕ) (d : List ℕ) → n ≤ x → total n (x ∷ d) ≡ total n d
unfolding total
total_past zero x d h = refl
total_past (suc n) x d h =
    let o = occurs_cons n x d false (ne_eqb x n (λ q. let z : ⊥ = omega arith in z)) in
    let i = total_past n x d (omega arith) in
    omega arith

total_cons : (n x : ℕ) (d : List ℕ) → total n (x ∷ d) ≤ suc (total n d)
unfolding total
total_cons zero x d = omega arith
total_cons (suc n) x d =
    by_test _ (eqb x n)
    (λ t.
    let q = eqb-true x n t in
    let o = occurs_cons n x d true t in
    let i = total_past n x d (omega arith) in
    omega arith)
    (λ t. let o = occurs_cons n x d false t in let i = total_cons n x d in omega arith)

total_none : (n : ℕ) → total n [] ≡ 0
unfolding total occurs
total_none zero = refl
total_none (suc n) = let i = total_none n in omega arith

total_bound : (n : ℕ) (d : List ℕ) → total n d ≤ length d
total_bound n [] = let z = total_none n in omega arith
total_bound n (x ∷ d) = let i = total_bound n d in let c = total_cons n x d in omega arith

module _ (d : List ℕ) where
  total_all : (n : ℕ) → ((s : ℕ) → s < n → 0 < occurs s d) → n ≤ total n d
  unfolding total
  total_all zero h = omega arith
  total_all (suc n) h =
      let i = total_all n (λ s l. h s (omega arith)) in
      let o = h n (omega arith) in
      omega arith

  total_more : (n : ℕ) → ((s : ℕ) → s < n → 0 < occurs s d) → (s : ℕ) → s < n → n + occurs s d ≤ suc (total n d)
  unfolding total
  total_more zero h s l = absurd (not-suc-le-zero l)
  total_more (suc n) h s l =
      ⊎_elim
      (λ q. let o = ap (λ (k : ℕ). occurs k d) q in let i = total_all n (λ k m. h k (omega arith)) in omega arith)
      (λ m. let i = total_more n (λ k j. h k (omega arith)) s m in let o = h n (omega arith) in omega arith)
      (eq-or-lt_of_le (le_of_suc-le-suc l))

-- the slots seen are as many as there are exactly where each stands in the order once
pub marked_permutation :
    (n : ℕ) (d : List ℕ) → length d ≡ n → eqb (size (marked d (replicate n false))) n ≡ is_permutation n d
unfolding is_permutation
marked_permutation n d e =
    by_test _ (is_permutation n d) right
    (λ f. by_test _ (eqb (size m) n) (λ t. absurd (false≢true (sym f ∙ counted t))) (λ t. t ∙ sym f))
  where
    m : List Bool
    m = marked d (replicate n false)

    lm : length m ≡ n
    lm = marked_length d (replicate n false) ∙ length-replicate n false

    right : is_permutation n d ≡ true → eqb (size m) n ≡ is_permutation n d
    right p =
        let q = lm in
        let r = length-replicate n false in
        let f =
        full_size m
        (λ s l. marked_in d (replicate n false) s (permutation_mem n d p s (omega arith)) (omega arith)) in
        eq-eqb (size m) n (f ∙ lm) ∙ sym p

    counted : eqb (size m) n ≡ true → is_permutation n d ≡ true
    counted t =
        let all : (s : ℕ) → s < n → 0 < occurs s d = λ s l.
        ⊎_elim
        (λ a. absurd (false≢true (sym (at_none n s) ∙ a)))
        (λ o. o)
        (marked_only d (replicate n false) s (size_full m (eqb-true (size m) n t ∙ sym lm) s (let q = lm in omega arith))) in
        ap₂ (λ (a b : Bool). a && b) (eq-eqb (length d) n e)
        (every_by (λ s. eqb (occurs s d) 1) n
        (λ s l.
        let o = all s l in
        let u = total_more d n all s l in
        let b = total_bound n d in
        eq-eqb (occurs s d) 1 (omega arith)))

-- ---- the order by slot
ascending_low : (s i k : ℕ) → s < i → occurs s (ascending i k) ≡ 0
unfolding ascending occurs
ascending_low s i zero h = refl
ascending_low s i (suc k) h =
    occurs_cons s i (ascending (suc i) k) false (ne_eqb i s (λ q. let z : ⊥ = omega arith in z))
    ∙ ascending_low s (suc i) k (omega arith)

-- no slot stands twice in it
pub ascending_once : (s i k : ℕ) → occurs s (ascending i k) ≤ 1
unfolding ascending occurs
ascending_once s i zero = omega arith
ascending_once s i (suc k) =
    by_test _ (eqb i s)
    (λ t.
    let q = eqb-true i s t in
    let o = occurs_cons s i (ascending (suc i) k) true t in
    let l = ascending_low s (suc i) k (omega arith) in
    omega arith)
    (λ t. let o = occurs_cons s i (ascending (suc i) k) false t in let r = ascending_once s (suc i) k in omega arith)
