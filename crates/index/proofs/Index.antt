-- Laws of `every`, `first`, `count`, `iter` and `gather`: how a loop that counts up computes them, and what they say.
-- Assumes nothing.
use Rattle.std.proofs.Common.{Option, Some, None}
use Prim.Native.Nat.{ℕ, zero, suc, ◌+◌, ◌<◌, ◌≤◌}
use native.Mathlib.Nat.{le_antisymm, not-suc-le-zero, eq-or-lt_of_le, le_of_suc-le-suc}
use native.Mathlib.Numerals.{add-one}
use native.Mathlib.Omega.{arith}
use mathlib.Core.Path.{◌≡◌, refl, sym, ap, ◌∙◌}
use mathlib.Core.Logic.{⊎_elim}
use mathlib.Core.Bool.{Bool, true, false, ◌&&◌, and-false}
use mathlib.Core.List.{List, [], ◌++◌, append_assoc, append-nil}
use lib.ListN.{length, length-append}
use Rattle.index.specs.Index.{every, first, one, count, iter, gather}

-- the two halves of a conjunction that holds
pub both : (a b : Bool) → a && b ≡ true → (a ≡ true) × (b ≡ true)
both true b e = (refl, e)
both false b e = let z : ◌≡◌ {A = ℕ} 0 1 = cc in absurd (omega arith)

module _ (f : ℕ → Bool) where
  pub every_none : every 0 f ≡ true
  unfolding every
  every_none = refl

  pub every_more : (i : ℕ) → every i f ≡ true → f i ≡ true → every (i + 1) f ≡ true
  unfolding every
  every_more i p q = rw (add-one, p, q)

  pub every_done : (n i : ℕ) → i ≤ n → n ≤ i → every i f ≡ true → every n f ≡ true
  every_done n i l h p = rw (le_antisymm h l) p

  pub every_fails : (n i : ℕ) → i < n → f i ≡ false → every n f ≡ false
  unfolding every
  every_fails zero i h q = absurd (not-suc-le-zero h)
  every_fails (suc n) i h q =
      ⊎_elim
      (λ e. rw (← e, q) (and-false (every i f)))
      (λ l. rw (every_fails n i l q))
      (eq-or-lt_of_le (le_of_suc-le-suc h))

  pub every_at : (n i : ℕ) → every n f ≡ true → i < n → f i ≡ true
  unfolding every
  every_at zero i p h = absurd (not-suc-le-zero h)
  every_at (suc n) i p h =
      ⊎_elim
      (λ e. rw e (both (every n f) (f n) p).1)
      (λ l. every_at n i (both (every n f) (f n) p).0 l)
      (eq-or-lt_of_le (le_of_suc-le-suc h))

  pub every_by : (n : ℕ) → ((i : ℕ) → i < n → f i ≡ true) → every n f ≡ true
  unfolding every
  every_by zero h = refl
  every_by (suc n) h =
      let p : every n f ≡ true = every_by n (λ i l. h i (omega arith)) in
      rw (p, h n (omega arith))

  -- the same, as a `return` asks it
  pub every_out : (n i : ℕ) → i < n → f i ≡ false → false ≡ every n f
  every_out n i h q = sym (every_fails n i h q)

  pub every_in : (n i : ℕ) → i ≤ n → n ≤ i → every i f ≡ true → true ≡ every n f
  every_in n i l h p = sym (every_done n i l h p)

  pub first_none : first 0 f ≡ None
  unfolding first
  first_none = refl

  pub first_more : (i : ℕ) → first i f ≡ None → f i ≡ false → first (i + 1) f ≡ None
  unfolding first
  first_more i p q = rw (add-one, p, q)

  pub first_done : (n i : ℕ) → i ≤ n → n ≤ i → first i f ≡ None → first n f ≡ None
  first_done n i l h p = rw (le_antisymm h l) p

  pub first_hit : (n i : ℕ) → i < n → first i f ≡ None → f i ≡ true → first n f ≡ Some i
  unfolding first
  first_hit zero i h p q = absurd (not-suc-le-zero h)
  first_hit (suc n) i h p q =
      ⊎_elim
      (λ e. rw (← e, p, q))
      (λ l. rw (first_hit n i l p q))
      (eq-or-lt_of_le (le_of_suc-le-suc h))

  pub first_out : (n i : ℕ) → i < n → first i f ≡ None → f i ≡ true → Some i ≡ first n f
  first_out n i h p q = sym (first_hit n i h p q)

  pub first_in : (n i : ℕ) → i ≤ n → n ≤ i → first i f ≡ None → None ≡ first n f
  first_in n i l h p = sym (first_done n i l h p)

  pub first_is : (n i : ℕ) → first n f ≡ Some i → (i < n) × (f i ≡ true)
  unfolding first
  first_is zero i e = let z : ◌≡◌ {A = ℕ} 0 1 = cc in absurd (omega arith)
  first_is (suc n) i e = go (first_is n i) (first n f) refl (f n) refl
    where
      go :
          (first n f ≡ Some i → (i < n) × (f i ≡ true)) →
          (g : Option ℕ) →
          first n f ≡ g →
          (b : Bool) →
          f n ≡ b →
          (i < suc n) × (f i ≡ true)
      go ih (Some j) p b q =
          let e' : Some j ≡ Some i = rw p at e in
          let r : (i < n) × (f i ≡ true) = ih (p ∙ e') in
          (omega arith, r.1)
      go ih None p true q =
          let e' : Some n ≡ Some i = rw (p, q) at e in
          let z : n ≡ i = cc in
          (omega arith, ap f (sym z) ∙ q)
      go ih None p false q =
          let e' : None ≡ Some i = rw (p, q) at e in
          let z : ◌≡◌ {A = ℕ} 0 1 = cc in
          absurd (omega arith)

  pub count_none : count 0 f ≡ 0
  unfolding count
  count_none = refl

  pub count_more : (i n : ℕ) → n ≡ count i f → n + one (f i) ≡ count (i + 1) f
  unfolding count
  count_more i n p = rw (add-one, p)

  pub count_done : (n i : ℕ) → i ≤ n → n ≤ i → count i f ≡ count n f
  count_done n i l h = rw (le_antisymm h l)

  pub count_bound : (n : ℕ) → count n f ≤ n
  unfolding count
  count_bound zero = omega arith
  count_bound (suc n) = go (f n) (count_bound n)
    where
      go : (b : Bool) → count n f ≤ n → count n f + one b ≤ suc n
      go true h = omega arith
      go false h = omega arith

pub one_le : (b : Bool) → one b ≤ 1
one_le true = omega arith
one_le false = omega arith

module _ {S : Type 0} (f : ℕ → S → S) (s : S) where
  pub iter_none : iter 0 f s ≡ s
  unfolding iter
  iter_none = refl

  pub iter_more : (i : ℕ) (t u : S) → t ≡ iter i f s → u ≡ f i t → u ≡ iter (i + 1) f s
  unfolding iter
  iter_more i t u p q = rw add-one (q ∙ ap (f i) p)

  pub iter_done : (n i : ℕ) (t : S) → i ≤ n → n ≤ i → t ≡ iter i f s → t ≡ iter n f s
  iter_done n i t l h p = rw (le_antisymm h l) p

-- what holds of s, and is kept at each index, holds of the walk's end
pub iter_keeps :
    {S : Type 0} (P : S → Type 0) (f : ℕ → S → S) (n : ℕ) (s : S) →
    P s →
    ((i : ℕ) (t : S) → i < n → P t → P (f i t)) →
    P (iter n f s)
unfolding iter
iter_keeps P f zero s h k = h
iter_keeps P f (suc n) s h k =
    k n (iter n f s) (omega arith) (iter_keeps P f n s h (λ i t l. k i t (omega arith)))

module _ {A : Type 0} (f : ℕ → List A) where
  pub gather_none : gather 0 f ≡ []
  unfolding gather
  gather_none = refl

  pub gather_more : (i : ℕ) → gather (i + 1) f ≡ gather i f ++ f i
  unfolding gather
  gather_more i = rw add-one

-- lists gathered of functions that agree
pub gather_same : {A : Type 0} (n : ℕ) (f g : ℕ → List A) → ((i : ℕ) → f i ≡ g i) → gather n f ≡ gather n g
unfolding gather
gather_same zero f g h = refl
gather_same (suc n) f g h = rw (gather_same n f g h, h n)

-- the first of those gathered, and the others
pub gather_first : {A : Type 0} (n : ℕ) (f : ℕ → List A) → gather (suc n) f ≡ f 0 ++ gather n (λ i. f (suc i))
unfolding gather
gather_first zero f = sym (append-nil (f 0))
gather_first {A} (suc n) f =
    ap (λ (l : List A). l ++ f (suc n)) (gather_first n f) ∙ append_assoc (f 0) (gather n (λ i. f (suc i))) (f (suc n))

-- lists of at most one element each
pub gather_short :
    {A : Type 0} (f : ℕ → List A) (n : ℕ) → ((i : ℕ) → length (f i) ≤ 1) → length (gather n f) ≤ n
unfolding gather
gather_short f zero h = omega arith
gather_short f (suc n) h = omega (arith, length-append (gather n f) (f n), gather_short f n h, h n)

-- two tests that agree below n have the same count there
pub count_same : (f g : ℕ → Bool) (n : ℕ) → ((i : ℕ) → i < n → f i ≡ g i) → count n f ≡ count n g
unfolding count
count_same f g zero h = refl
count_same f g (suc n) h = rw (count_same f g n (λ i l. h i (omega arith)), h n (omega arith))

-- a test that holds wherever another does counts no less
pub count_less :
    (f g : ℕ → Bool) (n : ℕ) → ((i : ℕ) → i < n → f i ≡ true → g i ≡ true) → count n f ≤ count n g
unfolding count
count_less f g zero h = omega arith
count_less f g (suc n) h =
    let l : count n f ≤ count n g = count_less f g n (λ i b. h i (omega arith)) in
    go (f n) refl l
  where
    go : (b : Bool) → f n ≡ b → count n f ≤ count n g → count n f + one b ≤ count n g + one (g n)
    go true e l = rw (h n (omega arith) e) (omega arith)
    go false e l = omega arith

pub every_same : (f g : ℕ → Bool) (n : ℕ) → ((i : ℕ) → i < n → f i ≡ g i) → every n f ≡ every n g
unfolding every
every_same f g zero h = refl
every_same f g (suc n) h = rw (every_same f g n (λ i l. h i (omega arith)), h n (omega arith))

pub first_same : (f g : ℕ → Bool) (n : ℕ) → ((i : ℕ) → i < n → f i ≡ g i) → first n f ≡ first n g
unfolding first
first_same f g zero h = refl
first_same f g (suc n) h = rw (first_same f g n (λ i l. h i (omega arith)), h n (omega arith))

-- a search that found nothing passed every index, and one that found i passed all before it
pub first_passed : (f : ℕ → Bool) (n : ℕ) → first n f ≡ None → (i : ℕ) → i < n → f i ≡ false
unfolding first
first_passed f zero e i h = absurd (not-suc-le-zero h)
first_passed f (suc n) e i h = go (first_passed f n) (first n f) refl (f n) refl
  where
    go :
        (first n f ≡ None → (i : ℕ) → i < n → f i ≡ false) →
        (g : Option ℕ) →
        first n f ≡ g →
        (b : Bool) →
        f n ≡ b →
        f i ≡ false
    go ih (Some j) p b q =
        let e' : Some j ≡ None = rw p at e in
        let z : ◌≡◌ {A = ℕ} 0 1 = cc in
        absurd (omega arith)
    go ih None p true q =
        let e' : Some n ≡ None = rw (p, q) at e in
        let z : ◌≡◌ {A = ℕ} 0 1 = cc in
        absurd (omega arith)
    go ih None p false q =
        ⊎_elim
        (λ k. ap f k ∙ q)
        (λ l. ih p i l)
        (eq-or-lt_of_le (le_of_suc-le-suc h))

-- what a loop that counts up asks
pub ruleset every-loop = (every_none, every_more, every_out, every_in)

pub ruleset first-loop = (first_none, first_more, first_out, first_in)
