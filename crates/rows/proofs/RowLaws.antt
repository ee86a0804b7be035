-- Laws of runs of cells, over any place, width and count.
-- Assumes nothing.
use Prim.Native.Nat.{ℕ, suc, ◌+◌, ◌*◌, ◌≤◌, ◌<◌}
use mathlib.Core.Path.{◌≡◌, refl, sym, ap, ◌∙◌, subst}
use mathlib.Core.List.{List, [], ◌∷◌, ◌++◌, map}
use native.Mathlib.Nat.{zero-add, add-zero, add_assoc, zero-mul, suc-mul, mul-le-mul_right}
use native.Mathlib.Numerals.{add-one}
use native.Mathlib.Omega.{arith}
use native.Mathlib.Decide.{dec_lt}
use lib.ListN.{length, get_or, set, take, drop, length-append, length-drop, get_or-append}
use lib.Seq.{get_or-take, get_or-drop, get_or-append-add, length-take-le, set_split, append_snoc}
use Rattle.layout.specs.Rows.{tab, put}
use Rattle.layout.proofs.RowLaws.{length_tab, get_or_tab, tab_same, tab_set, tab_get_or, get_or_put_before, get_or_put_in, get_or_put_after}
use Rattle.rows.specs.Rows.{span, rows, joins}

-- ---- a store of a run

module _ (cells : List ℕ) (at : ℕ) (vs : List ℕ) (fits : at + length vs ≤ length cells) where
  -- what was stored is read back
  pub span_put_same : span (put cells at vs) at (length vs) ≡ vs
  unfolding span
  span_put_same =
      tab_same (length vs) (λ k. get_or (put cells at vs) (at + k) 0) (λ k. get_or vs k 0) (λ k h. get_or_put_in cells at vs fits k h)
      ∙ tab_get_or vs 0

  -- a run that ends before the store, or starts after it, is as it was
  pub span_put_before : (a w : ℕ) → a + w ≤ at → span (put cells at vs) a w ≡ span cells a w
  unfolding span
  span_put_before a w h =
      tab_same w (λ k. get_or (put cells at vs) (a + k) 0) (λ k. get_or cells (a + k) 0)
      (λ k b. get_or_put_before cells at vs fits (a + k) (omega arith))

  pub span_put_after : (a w : ℕ) → at + length vs ≤ a → span (put cells at vs) a w ≡ span cells a w
  unfolding span
  span_put_after a w h =
      tab_same w (λ k. get_or (put cells at vs) (a + k) 0) (λ k. get_or cells (a + k) 0)
      (λ k b. get_or_put_after cells at vs fits (a + k) (omega arith))

-- one cell
pub put_one : (cells : List ℕ) (i v : ℕ) → i < length cells → put cells i (v ∷ []) ≡ set cells i v
unfolding put
put_one cells i v h =
    append_snoc (take i cells) v (drop (i + 1) cells)
    ∙ ap (λ n. take i cells ++ v ∷ drop n cells) (add-one i)
    ∙ sym (set_split cells i v h)

-- a cell of the run (o, n) is replaced, and no other
pub span_put_one :
    (cells : List ℕ) (o n t v : ℕ) →
    t < n →
    o + n ≤ length cells →
    span (put cells (o + t) (v ∷ [])) o n ≡ set (span cells o n) t v
unfolding span
span_put_one cells o n t v h fits =
    let f : (o + t) + length (v ∷ []) ≤ length cells = omega arith in
    tab_set n (λ k. get_or cells (o + k) 0) (λ k. get_or (put cells (o + t) (v ∷ [])) (o + k) 0) t v
    (ap (λ m. get_or (put cells (o + t) (v ∷ [])) m 0) (sym (add-zero (o + t))) ∙ get_or_put_in cells (o + t) (v ∷ []) f 0 (omega arith))
    (λ k hk ne. elim (dec_lt k t) [
      | yes l ↦ get_or_put_before cells (o + t) (v ∷ []) f (o + k) (omega arith)
      | no l ↦ get_or_put_after cells (o + t) (v ∷ []) f (o + k) (omega arith)
    ])

pub get_or_span : (cells : List ℕ) (o n t : ℕ) → t < n → get_or (span cells o n) t 0 ≡ get_or cells (o + t) 0
unfolding span
get_or_span cells o n t h = get_or_tab n (λ k. get_or cells (o + k) 0) t 0 h

pub length_span : (cells : List ℕ) (o n : ℕ) → length (span cells o n) ≡ n
unfolding span
length_span cells o n = length_tab n (λ k. get_or cells (o + k) 0)

-- ---- records of one width

-- a record ends before the next begins
pub stride : (i k w : ℕ) → i < k → i * w + w ≤ k * w
stride i k w h = subst (λ n. n ≤ k * w) (suc-mul i w) (mul-le-mul_right w h)

pub get_d_rows : (cells : List ℕ) (o w n i : ℕ) → i < n → get_or (rows cells o w n) i [] ≡ span cells (o + i * w) w
unfolding rows
get_d_rows cells o w n i h = get_or_tab n (λ k. span cells (o + k * w) w) i [] h

pub length_rows : (cells : List ℕ) (o w n : ℕ) → length (rows cells o w n) ≡ n
unfolding rows
length_rows cells o w n = length_tab n (λ k. span cells (o + k * w) w)

-- THE LAW OF A STORE: record i of the region (o, w, n) is replaced, and no other
pub rows_put_same : (cells : List ℕ) (o w n i : ℕ) (vs : List ℕ) → i < n → length vs ≡ w → o + n * w ≤ length cells
    → rows (put cells (o + i * w) vs) o w n ≡ set (rows cells o w n) i vs
unfolding rows
rows_put_same cells o w n i vs h e fits =
    let b : i * w + w ≤ n * w = stride i n w h in
    let f : (o + i * w) + length vs ≤ length cells = omega arith in
    tab_set n (λ k. span cells (o + k * w) w) (λ k. span (put cells (o + i * w) vs) (o + k * w) w) i vs
    (ap (λ m. span (put cells (o + i * w) vs) (o + i * w) m) (sym e) ∙ span_put_same cells (o + i * w) vs f)
    (λ k hk ne. elim (dec_lt k i) [
      | yes l ↦ span_put_before cells (o + i * w) vs f (o + k * w) w (omega (arith, stride k i w l))
      | no l ↦ span_put_after cells (o + i * w) vs f (o + k * w) w (omega (arith, stride i k w (omega arith)))
    ])

-- a store before or after the region leaves it
pub rows_put_before : (cells : List ℕ) (o w n at : ℕ) (vs : List ℕ) → at + length vs ≤ length cells → o + n * w ≤ at
    → rows (put cells at vs) o w n ≡ rows cells o w n
unfolding rows
rows_put_before cells o w n at vs f h =
    tab_same n (λ k. span (put cells at vs) (o + k * w) w) (λ k. span cells (o + k * w) w)
    (λ k b. span_put_before cells at vs f (o + k * w) w (omega (arith, stride k n w b)))

pub rows_put_after : (cells : List ℕ) (o w n at : ℕ) (vs : List ℕ) → at + length vs ≤ length cells → at + length vs ≤ o
    → rows (put cells at vs) o w n ≡ rows cells o w n
unfolding rows
rows_put_after cells o w n at vs f h =
    tab_same n (λ k. span (put cells at vs) (o + k * w) w) (λ k. span cells (o + k * w) w)
    (λ k b. span_put_after cells at vs f (o + k * w) w (omega arith))

-- ---- runs of two lists, one after the other

module _ (a b : List ℕ) where
  pub span_left : (o n : ℕ) → o + n ≤ length a → span (a ++ b) o n ≡ span a o n
  unfolding span
  span_left o n h =
      tab_same n (λ k. get_or (a ++ b) (o + k) 0) (λ k. get_or a (o + k) 0) (λ k l. get_or-append a b 0 (o + k) (omega arith))

  pub span_right : (o n : ℕ) → span (a ++ b) (length a + o) n ≡ span b o n
  unfolding span
  span_right o n =
      tab_same n (λ k. get_or (a ++ b) ((length a + o) + k) 0) (λ k. get_or b (o + k) 0) (λ k l.
      ap (λ m. get_or (a ++ b) m 0) (add_assoc (length a) o k) ∙ get_or-append-add a b (o + k) 0)

  pub rows_left : (o w n : ℕ) → o + n * w ≤ length a → rows (a ++ b) o w n ≡ rows a o w n
  unfolding rows
  rows_left o w n h =
      tab_same n (λ k. span (a ++ b) (o + k * w) w) (λ k. span a (o + k * w) w) (λ k l.
      span_left (o + k * w) w (omega (arith, stride k n w l)))

  pub rows_right : (o w n : ℕ) → rows (a ++ b) (length a + o) w n ≡ rows b o w n
  unfolding rows
  rows_right o w n =
      tab_same n (λ k. span (a ++ b) ((length a + o) + k * w) w) (λ k. span b (o + k * w) w) (λ k l.
      ap (λ m. span (a ++ b) m w) (add_assoc (length a) o (k * w)) ∙ span_right (o + k * w) w)

-- a list is the run of its own cells, and a part of a list is a run
pub span_all : (c : List ℕ) → span c 0 (length c) ≡ c
unfolding span
span_all c =
    tab_same (length c) (λ k. get_or c (0 + k) 0) (λ k. get_or c k 0) (λ k h. ap (λ i. get_or c i 0) (zero-add k)) ∙ tab_get_or c 0

pub span_part : (c : List ℕ) (at n : ℕ) → at + n ≤ length c → take n (drop at c) ≡ span c at n
unfolding span
span_part c at n h =
    let e : length (take n (drop at c)) ≡ n =
    length-take-le n (drop at c) (rw length-drop (omega arith)) in
    sym (tab_get_or (take n (drop at c)) 0)
    ∙ ap (λ m. tab m (λ k. get_or (take n (drop at c)) k 0)) e
    ∙ tab_same n (λ k. get_or (take n (drop at c)) k 0) (λ k. get_or c (at + k) 0) (λ k l.
    get_or-take n (drop at c) k 0 l ∙ get_or-drop at c k 0)

-- ---- the cells of each element, one after the other

module _ {A : Type 0} (f : A → List ℕ) (w : ℕ) (each : (x : A) → length (f x) ≡ w) where
  pub length_joins : (l : List A) → length (joins f l) ≡ length l * w
  unfolding joins
  length_joins [] = sym (zero-mul w)
  length_joins (x ∷ l) =
      length-append (f x) (joins f l) ∙ omega (arith, each x, length_joins l, suc-mul (length l) w)

  pub rows_joins : (l : List A) → rows (joins f l) 0 w (length l) ≡ map f l
  unfolding joins rows
  rows_joins [] = refl
  rows_joins (x ∷ l) =
      λ i.
      (ap (λ m. span (f x ++ joins f l) m w) start ∙ span_left (f x) (joins f l) 0 w (rw (each x) (omega arith))
      ∙ ap (span (f x) 0) (sym (each x)) ∙ span_all (f x)) i
      ∷ (tab_same (length l) (λ k. span (f x ++ joins f l) (0 + suc k * w) w) (λ k. span (joins f l) (0 + k * w) w) (λ k h.
      ap (λ m. span (f x ++ joins f l) m w) (next k) ∙ span_right (f x) (joins f l) (0 + k * w) w)
      ∙ rows_joins l) i
    where
      start : 0 + 0 * w ≡ 0
      start = zero-add (0 * w) ∙ zero-mul w

      next : (k : ℕ) → 0 + suc k * w ≡ length (f x) + (0 + k * w)
      next k = omega (arith, each x, suc-mul k w)
