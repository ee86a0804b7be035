-- Laws of lists made by index and of a run that is written.
-- Assumes nothing.
use Prim.Native.Nat.{ℕ, zero, suc, ◌+◌, ◌-◌, ◌≤◌, ◌<◌, suc-le-suc}
use mathlib.Core.Path.{◌≡◌, refl, sym, ap, ◌∙◌}
use mathlib.Core.Logic.{◌≢◌}
use mathlib.Core.List.{List, [], ◌∷◌, ◌++◌}
use native.Mathlib.Nat.{not-suc-le-zero, le_of_suc-le-suc, zero-lt-suc}
use native.Mathlib.Omega.{arith}
use lib.ListN.{length, get_or, set, take, drop, replicate, get_or-append}
use lib.Seq.{length_paste_head}
use lib.Seq.{get_or-take, get_or-drop, get_or-append-add, length-take-le}
use Rattle.layout.specs.Rows.{tab, put}

-- ---- a table made by index

pub length_tab : {A : Type 0} (n : ℕ) (f : ℕ → A) → length (tab n f) ≡ n
length_tab zero f = refl
length_tab (suc n) f = ap suc (length_tab n (λ k. f (suc k)))

pub get_or_tab : {A : Type 0} (n : ℕ) (f : ℕ → A) (i : ℕ) (d : A) → i < n → get_or (tab n f) i d ≡ f i
get_or_tab zero f i d h = absurd (not-suc-le-zero h)
get_or_tab (suc n) f zero d h = refl
get_or_tab (suc n) f (suc i) d h = get_or_tab n (λ k. f (suc k)) i d (le_of_suc-le-suc h)

pub tab_same : {A : Type 0} (n : ℕ) (f g : ℕ → A) → ((k : ℕ) → k < n → f k ≡ g k) → tab n f ≡ tab n g
tab_same zero f g h = refl
tab_same (suc n) f g h =
    λ i. h zero (zero-lt-suc n) i ∷ tab_same n (λ k. f (suc k)) (λ k. g (suc k)) (λ k b. h (suc k) (suc-le-suc b)) i

-- one entry changes: the table with that entry set
pub tab_set : {A : Type 0} (n : ℕ) (f g : ℕ → A) (i : ℕ) (v : A)
    → g i ≡ v → ((k : ℕ) → k < n → k ≢ i → g k ≡ f k) → tab n g ≡ set (tab n f) i v
tab_set zero f g i v e h = refl
tab_set (suc n) f g zero v e h =
    λ j. e j ∷ tab_same n (λ k. g (suc k)) (λ k. f (suc k)) (λ k b. h (suc k) (suc-le-suc b) (λ z. omega arith)) j
tab_set (suc n) f g (suc i) v e h =
    λ j. h zero (zero-lt-suc n) (λ z. omega arith) j
    ∷ tab_set n (λ k. f (suc k)) (λ k. g (suc k)) i v e (λ k b z. h (suc k) (suc-le-suc b) (λ w. z (omega arith))) j

-- a list is the table of its own elements
pub tab_get_or : {A : Type 0} (l : List A) (d : A) → tab (length l) (λ k. get_or l k d) ≡ l
tab_get_or [] d = refl
tab_get_or (x ∷ xs) d = ap (λ r. x ∷ r) (tab_get_or xs d)

-- ---- a store of a run

module _ (cells : List ℕ) (at : ℕ) (vs : List ℕ) (fits : at + length vs ≤ length cells) where
  head_length : length (take at cells ++ take (length vs) vs) ≡ at + length vs
  head_length = length_paste_head cells at vs (length vs) (omega arith) (omega arith)

  pub get_or_put_before : (k : ℕ) → k < at → get_or (put cells at vs) k 0 ≡ get_or cells k 0
  unfolding put
  get_or_put_before k h =
      get_or-append (take at cells ++ take (length vs) vs) (drop (at + length vs) cells) 0 k (rw head_length (omega arith))
      ∙ get_or-append (take at cells) (take (length vs) vs) 0 k (rw (length-take-le at cells (omega arith)) h)
      ∙ get_or-take at cells k 0 h

  pub get_or_put_in : (k : ℕ) → k < length vs → get_or (put cells at vs) (at + k) 0 ≡ get_or vs k 0
  unfolding put
  get_or_put_in k h =
      get_or-append (take at cells ++ take (length vs) vs) (drop (at + length vs) cells) 0 (at + k) (rw head_length (omega arith))
      ∙ ap (λ n. get_or (take at cells ++ take (length vs) vs) (n + k) 0) (sym (length-take-le at cells (omega arith)))
      ∙ get_or-append-add (take at cells) (take (length vs) vs) k 0
      ∙ get_or-take (length vs) vs k 0 h

  pub get_or_put_after : (k : ℕ) → at + length vs ≤ k → get_or (put cells at vs) k 0 ≡ get_or cells k 0
  unfolding put
  get_or_put_after k h =
      let e : k ≡ (at + length vs) + (k - (at + length vs)) = omega arith in
      ap (λ n. get_or (put cells at vs) n 0) e
      ∙ ap (λ n. get_or (put cells at vs) (n + (k - (at + length vs))) 0) (sym head_length)
      ∙ get_or-append-add (take at cells ++ take (length vs) vs) (drop (at + length vs) cells) (k - (at + length vs)) 0
      ∙ get_or-drop (at + length vs) cells (k - (at + length vs)) 0
      ∙ ap (λ n. get_or cells n 0) (sym e)

-- ---- one value everywhere

pub tab_const : {A : Type 0} (n : ℕ) (x : A) → tab n (λ k. x) ≡ replicate n x
tab_const zero x = refl
tab_const (suc n) x = ap (λ r. x ∷ r) (tab_const n x)
