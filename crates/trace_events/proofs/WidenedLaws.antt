-- An order of fewer slots, with the others behind it by slot, is a permutation exactly if the order is one of its own slots: what stands
-- behind it has each of the others once, and none of its own; and a permutation of n slots holds nothing else, since it is no longer.
-- Assumes nothing.
use Prim.Native.Nat.{ℕ, zero, suc, ◌+◌, ◌≤◌, ◌<◌}
use native.Mathlib.Omega.{arith}
use mathlib.Core.Path.{◌≡◌, refl, sym, ap, ap₂, ◌∙◌}
use mathlib.Core.Bool.{Bool, true, false, ◌&&◌, false≢true}
use mathlib.Core.List.{List, [], ◌∷◌, ◌++◌, append-nil}
use lib.ListN.{length, length-append}
use lib.Dec.{eqb}
use borrow.Author.Tests.{eq-eqb, ne_eqb, eqb-true, eqb-false}
use Rattle.index.proofs.Index.{every_by}
use Rattle.index.proofs.Flags.{by_test, by_order}
use Rattle.sets.specs.Sets.{occurs, is_permutation, ascending}
use Rattle.sets.proofs.PermutationLaws.{occurs_cons, permutation_once}
use Rattle.trace_events.specs.Reading.{old_slots, widened, OldOrders, WholeOrders}

-- the order by slot, and one slot longer
ascending_length : (i k : ℕ) → length (ascending i k) ≡ k
unfolding ascending
ascending_length i zero = refl
ascending_length i (suc k) = ap suc (ascending_length (suc i) k)

pub ascending_more : (i k : ℕ) → ascending i (suc k) ≡ ascending i k ++ ((i + k) ∷ [])
unfolding ascending
ascending_more i zero = let e : i + 0 ≡ i = omega arith in rw e
ascending_more i (suc k) =
    let e : i + suc k ≡ suc i + k = omega arith in
    rw e (ap (λ (l : List ℕ). i ∷ l) (ascending_more (suc i) k))

-- ---- how often a slot stands in them
other : (s x : ℕ) (d : List ℕ) → (x ≡ s → ⊥) → occurs s (x ∷ d) ≡ occurs s d
other s x d h = occurs_cons s x d false (ne_eqb x s h)

occurs_append : (s : ℕ) (a b : List ℕ) → occurs s (a ++ b) ≡ occurs s a + occurs s b
unfolding occurs
occurs_append s [] b = omega arith
occurs_append s (x ∷ a) b =
    let i = occurs_append s a b in
    by_test (occurs s ((x ∷ a) ++ b) ≡ occurs s (x ∷ a) + occurs s b) (eqb x s) (λ t. rw t (omega arith)) (λ t. rw t i)

ascending_none : (s i k : ℕ) → s < i → occurs s (ascending i k) ≡ 0
unfolding ascending occurs
ascending_none s i zero h = refl
ascending_none s i (suc k) h = other s i (ascending (suc i) k) (λ q. omega arith) ∙ ascending_none s (suc i) k (omega arith)

ascending_one : (s i k : ℕ) → i ≤ s → s < i + k → occurs s (ascending i k) ≡ 1
unfolding ascending
ascending_one s i zero l h = absurd (omega arith)
ascending_one s i (suc k) l h =
    by_test (occurs s (i ∷ ascending (suc i) k) ≡ 1) (eqb i s)
    (λ t.
    let q = eqb-true i s t in
    let o = occurs_cons s i (ascending (suc i) k) true t in
    let r = ascending_none s (suc i) k (omega arith) in
    omega arith)
    (λ t.
    let n : i ≡ s → ⊥ = eqb-false i s t in
    other s i (ascending (suc i) k) n ∙ ascending_one s (suc i) k (omega arith) (omega arith))

-- ---- how often the slots below n stand in an order, all in all: with one from n on, no more often than it is long
all : ℕ → List ℕ → ℕ
all zero d = 0
all (suc n) d = all n d + occurs n d

all_past : (n x : ℕ) (d : List ℕ) → n ≤ x → all n (x ∷ d) ≡ all n d
unfolding all
all_past zero x d h = refl
all_past (suc n) x d h =
    let o = other n x d (λ q. omega arith) in
    let i = all_past n x d (omega arith) in
    omega arith

all_cons : (n x : ℕ) (d : List ℕ) → all n (x ∷ d) ≤ suc (all n d)
unfolding all
all_cons zero x d = omega arith
all_cons (suc n) x d =
    by_test (all (suc n) (x ∷ d) ≤ suc (all (suc n) d)) (eqb x n)
    (λ t.
    let q = eqb-true x n t in
    let o = occurs_cons n x d true t in
    let i = all_past n x d (omega arith) in
    omega arith)
    (λ t. let o = occurs_cons n x d false t in let i = all_cons n x d in omega arith)

all_none : (n : ℕ) → all n [] ≡ 0
unfolding all occurs
all_none zero = refl
all_none (suc n) = let i = all_none n in omega arith

all_most : (n s : ℕ) (d : List ℕ) → n ≤ s → all n d + occurs s d ≤ length d
unfolding occurs
all_most n s [] h = let z = all_none n in omega arith
all_most n s (x ∷ d) h =
    let i = all_most n s d h in
    by_test (all n (x ∷ d) + occurs s (x ∷ d) ≤ length (x ∷ d)) (eqb x s)
    (λ t.
    let q = eqb-true x s t in
    let o = occurs_cons s x d true t in
    let p = all_past n x d (omega arith) in
    omega arith)
    (λ t. let o = occurs_cons s x d false t in let p = all_cons n x d in omega arith)

all_once : (d : List ℕ) (n : ℕ) → ((s : ℕ) → s < n → occurs s d ≡ 1) → all n d ≡ n
unfolding all
all_once d zero h = refl
all_once d (suc n) h =
    let i = all_once d n (λ s l. h s (omega arith)) in
    let o = h n (omega arith) in
    omega arith

-- ---- the law
once_each : (n : ℕ) (d : List ℕ) → length d ≡ n → ((s : ℕ) → s < n → occurs s d ≡ 1) → is_permutation n d ≡ true
unfolding is_permutation
once_each n d e h =
    ap₂ (λ (a b : Bool). a && b) (eq-eqb (length d) n e)
    (every_by (λ s. eqb (occurs s d) 1) n (λ s l. eq-eqb (occurs s d) 1 (h s l)))

module _ (n k : ℕ) (d : List ℕ) (l : length d ≡ n) where
  abbrev wide : List ℕ
  wide = d ++ ascending n k

  wider : is_permutation n d ≡ true → is_permutation (n + k) wide ≡ true
  wider p =
      once_each (n + k) wide (omega (arith, length-append d (ascending n k), ascending_length n k))
      (λ s h.
      let o = occurs_append s d (ascending n k) in
      by_order (occurs s wide ≡ 1) s n
      (λ i. let q = permutation_once n d p s i in let z = ascending_none s n k i in omega arith)
      (λ i.
      let q = ascending_one s n k i h in
      let m = all_most n s d i in
      let a = all_once d n (permutation_once n d p) in
      omega arith))

  narrower : is_permutation (n + k) wide ≡ true → is_permutation n d ≡ true
  narrower p =
      once_each n d l
      (λ s h.
      let o = occurs_append s d (ascending n k) in
      let q = permutation_once (n + k) wide p s (omega arith) in
      let z = ascending_none s n k h in
      omega arith)

  pub wide_permutation : is_permutation (n + k) wide ≡ is_permutation n d
  wide_permutation =
      by_test (is_permutation (n + k) wide ≡ is_permutation n d) (is_permutation n d)
      (λ t. wider t ∙ sym t)
      (λ t.
      by_test (is_permutation (n + k) wide ≡ is_permutation n d) (is_permutation (n + k) wide)
      (λ u. absurd (false≢true (sym t ∙ narrower u)))
      (λ u. u ∙ sym t))

-- ---- of a trace's permutations
pub old_orders : OldOrders
unfolding widened
old_orders order l = rw l (wide_permutation old_slots 192 order l)

pub whole_orders : WholeOrders
unfolding widened ascending
whole_orders order l = rw l (append-nil order)
