-- What stands in a list after one element is replaced, after a run of stores, and while a loop builds it from the front.
-- Assumes nothing.
use Prim.Native.Nat.{ℕ, zero, suc, ◌+◌, ◌≤◌, ◌<◌}
use mathlib.Core.Path.{◌≡◌, refl, sym, ap, ◌∙◌}
use mathlib.Core.List.{List, [], ◌∷◌, ◌++◌}
use native.Mathlib.Nat.{add-zero, add-suc, suc-add, not-suc-le-zero}
use native.Mathlib.Omega.{arith}
use lib.ListN.{length, get_or, set, length-set}
use lib.Seq.{sets, get_or-set_same, get_or-set_other, ext_get_or}
use borrow.Author.Count.{below_more}

-- P holds of element k after a store at i, if it holds of what was stored where k is i, and of the old element
pub set_case :
    {A : Type 0} (P : A → Type 0) (l : List A) (i k : ℕ) (a d : A) →
    (k ≡ i → P a) →
    P (get_or l k d) →
    P (get_or (set l i a) k d)
set_case P [] i k a d h o = o
set_case P (x ∷ xs) zero zero a d h o = h refl
set_case P (x ∷ xs) zero (suc k) a d h o = o
set_case P (x ∷ xs) (suc i) zero a d h o = o
set_case P (x ∷ xs) (suc i) (suc k) a d h o = set_case P xs i k a d (λ e. h (ap suc e)) o

-- a run of stores after another is one run
pub sets_append :
    {A : Type 0} (l : List A) (i : ℕ) (p q : List A) → sets l i (p ++ q) ≡ sets (sets l i p) (i + length p) q
sets_append l i [] q = rw (add-zero i)
sets_append l i (a ∷ p) q =
    sets_append (set l i a) (suc i) p q
    ∙ ap (λ (k : ℕ). sets (sets (set l i a) (suc i) p) k q) (suc-add i (length p) ∙ sym (add-suc i (length p)))

-- A list r of n elements that a loop builds from the front: below i it has what f says.
pub record Built {A : Type 0} (d : A) (f : ℕ → A) (n i : ℕ) (r : List A) : Type 0 where
  pub low : i ≤ n
  pub len : length r ≡ n
  pub below : (k : ℕ) → k < i → get_or r k d ≡ f k

module _ {A : Type 0} (d : A) (f : ℕ → A) (n : ℕ) where
  pub built_none : (r : List A) → length r ≡ n → Built d f n 0 r
  built_none r l = record { low = omega arith; len = l; below = λ k h. absurd (not-suc-le-zero h) }

  pub built_more : (i : ℕ) (r : List A) (v : A) → i < n → Built d f n i r → v ≡ f i → Built d f n (i + 1) (set r i v)
  built_more i r v h b here =
      record {
        low = omega arith;
        len = length-set r i v ∙ b.len;
        below =
            below_more (λ (k : ℕ). get_or (set r i v) k d ≡ f k) i
            (λ k lt.
            get_or-set_other r i k v d (λ e. omega arith) ∙ b.below k lt)
            (get_or-set_same r i v d (let l = b.len in omega arith) ∙ here);
      }

  pub built_done :
      (i : ℕ) (r t : List A) →
      n ≤ i →
      Built d f n i r →
      length t ≡ n →
      ((k : ℕ) → k < n → get_or t k d ≡ f k) →
      r ≡ t
  built_done i r t h b l e =
      ext_get_or d r t (b.len ∙ sym l)
      (λ k lt. let q = b.len in b.below k (omega arith) ∙ sym (e k (omega arith)))
