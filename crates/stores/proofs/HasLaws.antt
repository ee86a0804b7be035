-- Whether a list has a number, as loops that go along it find it; whether some index below n fits, by parts.
-- Assumes nothing.
use Prim.Native.Nat.{ℕ, zero, suc, ◌+◌, ◌*◌, ◌≤◌, ◌<◌}
use native.Mathlib.Nat.{le_antisymm, not-suc-le-zero, eq-or-lt_of_le, le_of_suc-le-suc, add-zero, add-suc, suc-mul, zero-mul}
use native.Mathlib.Numerals.{add-one}
use native.Mathlib.Omega.{arith}
use mathlib.Core.Bool.{Bool, true, false, ◌||◌, false≢true}
use mathlib.Core.List.{List, [], ◌∷◌, ◌++◌}
use mathlib.Core.Logic.{⊎_elim}
use mathlib.Core.Path.{◌≡◌, refl, sym, ap, ◌∙◌}
use lib.Dec.{eqb}
use lib.ListN.{length, get_or, take}
use lib.Seq.{take-suc, take_all}
use borrow.Author.Tests.{eqb-true, eq-eqb}
use Rattle.index.proofs.Flags.{by_test}
use Rattle.gossip.specs.Notes.{has, some}

pub or_assoc : (a b c : Bool) → (a || b) || c ≡ a || (b || c)
or_assoc true b c = refl
or_assoc false b c = refl

pub or_false : (a : Bool) → a || false ≡ a
or_false true = refl
or_false false = refl

pub or_true : (a : Bool) → a || true ≡ true
or_true true = refl
or_true false = refl

-- the two halves of a disjunction that does not hold
pub neither : (a b : Bool) → a || b ≡ false → (a ≡ false) × (b ≡ false)
neither false b e = (refl, e)
neither true b e = let z : ◌≡◌ {A = ℕ} 0 1 = cc in absurd (omega arith)

-- ---- has

pub has_append : (n : ℕ) (a b : List ℕ) → has n (a ++ b) ≡ has n a || has n b
unfolding has
has_append n [] b = refl
has_append n (m ∷ a) b = ap (λ (t : Bool). eqb m n || t) (has_append n a b) ∙ sym (or_assoc (eqb m n) (has n a) (has n b))

pub has_snoc : (n m : ℕ) (a : List ℕ) → has n (a ++ (m ∷ [])) ≡ has n a || eqb m n
unfolding has
has_snoc n m a = has_append n a (m ∷ []) ∙ ap (λ (t : Bool). has n a || t) (or_false (eqb m n))

pub has_none : (n : ℕ) → false ≡ has n []
unfolding has
has_none n = refl

pub has_more : (n : ℕ) (l : List ℕ) (k : ℕ) (b : Bool)
    → k < length l → b ≡ has n (take k l) → b || eqb (get_or l k 0) n ≡ has n (take (k + 1) l)
has_more n l k b h e =
    ap (λ (t : Bool). t || eqb (get_or l k 0) n) e
    ∙ sym (has_snoc n (get_or l k 0) (take k l))
    ∙ ap (has n) (sym (take-suc l k 0 h))
    ∙ ap (λ (j : ℕ). has n (take j l)) (sym (add-one k))

pub has_done : (n : ℕ) (l : List ℕ) (k : ℕ) (b : Bool) → length l ≤ k → b ≡ has n (take k l) → b ≡ has n l
has_done n l k b h e = e ∙ ap (has n) (take_all k l h)

-- a list has what stands in it, and lacks what no part of it has
pub has_at : (n : ℕ) (l : List ℕ) (k : ℕ) → k < length l → get_or l k 0 ≡ n → has n l ≡ true
unfolding has
has_at n [] k h e = absurd (not-suc-le-zero h)
has_at n (m ∷ l) zero h e = rw (eq-eqb m n e)
has_at n (m ∷ l) (suc k) h e = rw (has_at n l k (le_of_suc-le-suc h) e) (or_true (eqb m n))

pub has_index : (n : ℕ) (l : List ℕ) → has n l ≡ true → (k : ℕ) × ((k < length l) × (get_or l k 0 ≡ n))
unfolding has
has_index n [] e = absurd (false≢true e)
has_index n (m ∷ l) e =
    by_test ((k : ℕ) × ((k < length (m ∷ l)) × (get_or (m ∷ l) k 0 ≡ n))) (eqb m n)
    (λ t. (0, (omega arith, eqb-true m n t)))
    (λ t. let r = has_index n l (rw t at e) in let b = r.1.0 in (suc r.0, (omega arith, r.1.1)))

-- ---- some

module _ (f : ℕ → Bool) where
  pub some_none : some 0 f ≡ false
  unfolding some
  some_none = refl

  pub some_more : (i : ℕ) → some i f ≡ false → f i ≡ false → some (i + 1) f ≡ false
  unfolding some
  some_more i p q = rw (add-one, p, q)

  pub some_hit : (n i : ℕ) → i < n → f i ≡ true → some n f ≡ true
  unfolding some
  some_hit zero i h q = absurd (not-suc-le-zero h)
  some_hit (suc n) i h q =
      ⊎_elim
      (λ e. rw (← e, q) (or_true (some i f)))
      (λ l. rw (some_hit n i l q))
      (eq-or-lt_of_le (le_of_suc-le-suc h))

  pub some_out : (n i : ℕ) → i < n → f i ≡ true → true ≡ some n f
  some_out n i h q = sym (some_hit n i h q)

  pub some_in : (n i : ℕ) → i ≤ n → n ≤ i → some i f ≡ false → false ≡ some n f
  some_in n i l h p = rw (le_antisymm h l) (sym p)

  pub some_add : (a b : ℕ) → some (a + b) f ≡ some a f || some b (λ i. f (a + i))
  unfolding some
  some_add a zero = rw add-zero (sym (or_false (some a f)))
  some_add a (suc b) =
      rw add-suc
      (ap (λ (t : Bool). t || f (a + b)) (some_add a b)
      ∙ or_assoc (some a f) (some b (λ i. f (a + i))) (f (a + b)))

  -- by runs of m
  pub some_runs : (n m : ℕ) → some (n * m) f ≡ some n (λ t. some m (λ w. f (t * m + w)))
  unfolding some
  some_runs zero m = rw zero-mul refl
  some_runs (suc n) m =
      ap (λ (k : ℕ). some k f) (suc-mul n m)
      ∙ some_add (n * m) m
      ∙ ap (λ (t : Bool). t || some m (λ w. f (n * m + w))) (some_runs n m)

pub some_same : (f g : ℕ → Bool) (n : ℕ) → ((i : ℕ) → i < n → f i ≡ g i) → some n f ≡ some n g
unfolding some
some_same f g zero h = refl
some_same f g (suc n) h = rw (some_same f g n (λ i l. h i (omega arith)), h n (omega arith))
