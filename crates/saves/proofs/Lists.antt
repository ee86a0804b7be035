-- Laws of lists in parts of one width, and of lists by element.
-- Assumes nothing.
use Rattle.std.proofs.Common.{None}
use Prim.{tt}
use Prim.Native.Nat.{ℕ, zero, suc, ◌+◌, ◌*◌, ◌<◌, ◌≤◌, suc-le-suc}
use mathlib.Core.Path.{◌≡◌, refl, sym, ap, ◌∙◌}
use mathlib.Core.List.{List, [], ◌∷◌, ◌++◌}
use native.Mathlib.Nat.{suc-mul, zero-mul, le_of_suc-le-suc, not-suc-le-zero}
use native.Mathlib.Omega.{arith}
use lib.ListN.{length, get_or, length-append, get_or-append}
use lib.Seq.{get_or-append-add}
use mathlib.Core.Bool.{Bool, false}
use Rattle.index.specs.Index.{first, gather}
use Rattle.index.proofs.Flags.{by_order}
use Rattle.layout.specs.Rows.{tab}
use Rattle.rows.specs.Rows.{span, joins}
use Rattle.rows.proofs.RowLaws.{stride}
use Rattle.rows.proofs.Whole.{span_append}

-- ---- gathered parts
pub gather_upto :
    {A : Type 0} (n : ℕ) (f g : ℕ → List A) → ((i : ℕ) → i < n → f i ≡ g i) → gather n f ≡ gather n g
unfolding gather
gather_upto zero f g h = refl
gather_upto (suc n) f g h = rw (gather_upto n f g (λ i l. h i (omega arith)), h n (omega arith))

module _ (f : ℕ → List ℕ) (w : ℕ) (each : (t : ℕ) → length (f t) ≡ w) where
  pub length_gather : (n : ℕ) → length (gather n f) ≡ n * w
  unfolding gather
  length_gather zero = sym (zero-mul w)
  length_gather (suc n) = length-append (gather n f) (f n) ∙ omega (arith, length_gather n, each n, suc-mul n w)

  pub get_or_gather : (n t i : ℕ) → t < n → i < w → get_or (gather n f) (t * w + i) 0 ≡ get_or (f t) i 0
  unfolding gather
  get_or_gather zero t i h l = absurd (omega arith)
  get_or_gather (suc n) t i h l =
      by_order (get_or (gather n f ++ f n) (t * w + i) 0 ≡ get_or (f t) i 0) t n
      (λ b. get_or-append (gather n f) (f n) 0 (t * w + i) (rw (length_gather n) (below t n i b l)) ∙ get_or_gather n t i b l)
      (λ b.
      let e : t ≡ n = omega arith in
      ap (λ (k : ℕ). get_or (gather n f ++ f n) (k * w + i) 0) e
      ∙ ap (λ (k : ℕ). get_or (gather n f ++ f n) (k + i) 0) (sym (length_gather n))
      ∙ get_or-append-add (gather n f) (f n) i 0
      ∙ ap (λ (k : ℕ). get_or (f k) i 0) (sym e))
    where
      below : (t n i : ℕ) → t < n → i < w → t * w + i < n * w
      below t n i b l = omega (arith, stride t n w b)

-- ---- joined parts
module _ {A : Type 0} (f : A → List ℕ) (w : ℕ) (each : (x : A) → length (f x) ≡ w) where
  pub get_or_joins : (l : List A) (d : A) (k j : ℕ) → k < length l → j < w → get_or (joins f l) (k * w + j) 0 ≡ get_or (f (get_or l k d)) j 0
  unfolding joins
  get_or_joins [] d k j h b = absurd (not-suc-le-zero h)
  get_or_joins (x ∷ l) d zero j h b =
      ap (λ (n : ℕ). get_or (f x ++ joins f l) n 0) (omega (arith, zero-mul w))
      ∙ get_or-append (f x) (joins f l) 0 j (rw (each x) b)
  get_or_joins (x ∷ l) d (suc k) j h b =
      ap (λ (n : ℕ). get_or (f x ++ joins f l) n 0) shift
      ∙ get_or-append-add (f x) (joins f l) (k * w + j) 0
      ∙ get_or_joins l d k j (le_of_suc-le-suc h) b
    where
      shift : suc k * w + j ≡ length (f x) + (k * w + j)
      shift = omega (arith, each x, suc-mul k w)

-- parts that are the runs of a list, one after the other
pub joins_spans :
    {A : Type 0} (f : A → List ℕ) (c : List ℕ) (w n o : ℕ) (g : ℕ → A) →
    ((k : ℕ) → k < n → f (g k) ≡ span c (o + k * w) w) →
    joins f (tab n g) ≡ span c o (n * w)
unfolding joins span
joins_spans f c w zero o g h = ap (λ (k : ℕ). span c o k) (sym (zero-mul w))
joins_spans f c w (suc n) o g h =
    ap (λ (l : List ℕ). l ++ joins f (tab n (λ k. g (suc k)))) (h 0 (omega arith) ∙ ap (λ (k : ℕ). span c k w) start)
    ∙ ap (λ (l : List ℕ). span c o w ++ l)
    (joins_spans f c w n (o + w) (λ k. g (suc k)) (λ k b. h (suc k) (suc-le-suc b) ∙ ap (λ (m : ℕ). span c m w) (next k)))
    ∙ span_append c o w (n * w)
    ∙ ap (λ (k : ℕ). span c o k) last
  where
    start : o + 0 * w ≡ o
    start = omega (arith, zero-mul w)

    next : (k : ℕ) → o + suc k * w ≡ (o + w) + k * w
    next k = omega (arith, suc-mul k w)

    last : w + n * w ≡ suc n * w
    last = omega (arith, suc-mul n w)

-- ---- element by element
abbrev pub Each : (ℕ → Type 0) → List ℕ → Type 0
Each P [] = Unit
Each P (k ∷ l) = P k × Each P l

pub each_at : (P : ℕ → Type 0) (l : List ℕ) → Each P l → (i : ℕ) → i < length l → P (get_or l i 0)
each_at P [] e i h = absurd (not-suc-le-zero h)
each_at P (k ∷ l) e zero h = e.0
each_at P (k ∷ l) e (suc i) h = each_at P l e.1 i (le_of_suc-le-suc h)

pub each_map : (P Q : ℕ → Type 0) → ((k : ℕ) → P k → Q k) → (l : List ℕ) → Each P l → Each Q l
each_map P Q f [] e = tt
each_map P Q f (k ∷ l) e = (f k e.0, each_map P Q f l e.1)

pub each_append : (P : ℕ → Type 0) (l m : List ℕ) → Each P l → Each P m → Each P (l ++ m)
each_append P [] m e f = f
each_append P (k ∷ l) m e f = (e.0, each_append P l m e.1 f)

pub each_gather : (P : ℕ → Type 0) (f : ℕ → List ℕ) (n : ℕ) → ((t : ℕ) → t < n → Each P (f t)) → Each P (gather n f)
unfolding gather
each_gather P f zero h = tt
each_gather P f (suc n) h =
    each_append P (gather n f) (f n) (each_gather P f n (λ t l. h t (omega arith))) (h n (omega arith))

-- a search of a test that never holds
pub first_by : (f : ℕ → Bool) (n : ℕ) → ((i : ℕ) → i < n → f i ≡ false) → first n f ≡ None
unfolding first
first_by f zero h = refl
first_by f (suc n) h = rw (first_by f n (λ i l. h i (omega arith)), h n (omega arith))

-- no number of the first list is above the one at its place in the second
abbrev pub Below : List ℕ → List ℕ → Type 0
Below [] ms = Unit
Below (x ∷ xs) [] = ⊥
Below (x ∷ xs) (m ∷ ms) = (x ≤ m) × Below xs ms

pub below_at : (xs ms : List ℕ) → Below xs ms → (j : ℕ) → j < length xs → get_or xs j 0 ≤ get_or ms j 0
below_at [] ms b j h = absurd (not-suc-le-zero h)
below_at (x ∷ xs) [] b j h = absurd b
below_at (x ∷ xs) (m ∷ ms) b zero h = b.0
below_at (x ∷ xs) (m ∷ ms) b (suc j) h = below_at xs ms b.1 j (le_of_suc-le-suc h)

pub below_append : (xs ms ys ns : List ℕ) → length xs ≡ length ms → Below xs ms → Below ys ns → Below (xs ++ ys) (ms ++ ns)
below_append [] [] ys ns e b c = c
below_append [] (m ∷ ms) ys ns e b c = absurd (omega arith)
below_append (x ∷ xs) [] ys ns e b c = absurd b
below_append (x ∷ xs) (m ∷ ms) ys ns e b c = (b.0, below_append xs ms ys ns (omega arith) b.1 c)

pub below_gather :
    (f g : ℕ → List ℕ) (w : ℕ) →
    ((t : ℕ) → length (f t) ≡ w) →
    ((t : ℕ) → length (g t) ≡ w) →
    (n : ℕ) →
    ((t : ℕ) → t < n → Below (f t) (g t)) →
    Below (gather n f) (gather n g)
unfolding gather
below_gather f g w lf lg zero h = tt
below_gather f g w lf lg (suc n) h =
    below_append (gather n f) (gather n g) (f n) (g n) (length_gather f w lf n ∙ sym (length_gather g w lg n))
    (below_gather f g w lf lg n (λ t l. h t (omega arith)))
    (h n (omega arith))
