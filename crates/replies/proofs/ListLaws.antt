-- What the calls do to the rows, by place: where a reply's row stands, which rows are kept, and when they rise.
-- Assumes nothing.
use Prim.Native.Nat.{ℕ, zero, suc, ◌≤◌, ◌<◌, suc-le-suc}
use mathlib.Core.Path.{◌≡◌, refl, sym, ap, ◌∙◌}
use mathlib.Core.Bool.{Bool, true, false}
use mathlib.Core.List.{List, [], ◌∷◌, ◌++◌, map}
use native.Mathlib.Nat.{not-suc-le-zero, le_of_suc-le-suc, zero-lt-suc}
use native.Mathlib.Omega.{arith}
use lib.Dec.{ltb}
use lib.ListN.{length, get_or, set}
use borrow.Author.Tests.{lt-ltb, le-ltb, ltb-true, eq-eqb, ne_eqb}
use Rattle.index.specs.Index.{gather}
use Rattle.index.proofs.Index.{both, gather_first}
use Rattle.layout.specs.Rows.{tab}
use Rattle.layout.proofs.RowLaws.{tab_same}
use Rattle.gossip.specs.Notes.{Row, count_in, first_reply, one_more, replied, ended_row, ended, also, keep}
use Rattle.gossip.specs.Valid.{all, rises, row_number}
use Rattle.replies.specs.View.{inserted}

-- ---- rows by place

-- the number of row k
abbrev pub number_at : List Row → ℕ → ℕ
number_at l k = get_or (map row_number l) k 0

-- the rows below p have smaller numbers
abbrev pub Less : ℕ → ℕ → List Row → Type 0
Less n p l = (k : ℕ) → k < p → number_at l k < n

less_first : (n p : ℕ) (r : Row) (l : List Row) → Less n (suc p) (r ∷ l) → r.number < n
less_first n p r l h = h zero (zero-lt-suc p)

less_rest : (n p : ℕ) (r : Row) (l : List Row) → Less n (suc p) (r ∷ l) → Less n p l
less_rest n p r l h k b = h (suc k) (suc-le-suc b)

-- ---- a reply

-- its number has a row already
pub replied_here :
    (n s p : ℕ) (l : List Row) (d : Row) →
    p < length l →
    Less n p l →
    number_at l p ≡ n →
    replied n s l ≡ set l p (one_more (get_or l p d) s)
unfolding replied
replied_here n s p [] d h b e = absurd (not-suc-le-zero h)
replied_here n s zero (r ∷ l) d h b e =
    rw (le-ltb n r.number (let z : r.number ≡ n = e in omega arith), eq-eqb n r.number (sym e))
replied_here n s (suc p) (r ∷ l) d h b e =
    let z = less_first n p r l b in
    rw (le-ltb n r.number (omega arith), ne_eqb n r.number (λ q. omega arith))
    (ap (λ (t : List Row). r ∷ t) (replied_here n s p l d (le_of_suc-le-suc h) (less_rest n p r l b) e))

-- it has none yet
pub replied_new :
    (n s p : ℕ) (l : List Row) →
    p ≤ length l →
    Less n p l →
    (p < length l → n < number_at l p) →
    replied n s l ≡ inserted p (first_reply n s) l
unfolding replied inserted
replied_new n s zero [] h b e = refl
replied_new n s (suc p) [] h b e = absurd (not-suc-le-zero h)
replied_new n s zero (r ∷ l) h b e = rw (lt-ltb n r.number (e (zero-lt-suc (length l))))
replied_new n s (suc p) (r ∷ l) h b e =
    let z = less_first n p r l b in
    rw (le-ltb n r.number (omega arith), ne_eqb n r.number (λ q. omega arith))
    (ap (λ (t : List Row). r ∷ t)
    (replied_new n s p l (le_of_suc-le-suc h) (less_rest n p r l b) (λ q. e (suc-le-suc q))))

-- ---- a count

pub count_here :
    (n s p : ℕ) (l : List Row) (d : Row) →
    p < length l →
    Less n p l →
    number_at l p ≡ n →
    count_in l n s ≡ get_or (get_or l p d).counts s 0
unfolding count_in
count_here n s p [] d h b e = absurd (not-suc-le-zero h)
count_here n s zero (r ∷ l) d h b e = rw (eq-eqb r.number n e)
count_here n s (suc p) (r ∷ l) d h b e =
    let z = less_first n p r l b in
    rw (ne_eqb r.number n (λ q. omega arith)) (count_here n s p l d (le_of_suc-le-suc h) (less_rest n p r l b) e)

pub count_none : (n s : ℕ) (l : List Row) → ((k : ℕ) → k < length l → number_at l k ≡ n → ⊥) → count_in l n s ≡ 0
unfolding count_in
count_none n s [] h = refl
count_none n s (r ∷ l) h =
    rw (ne_eqb r.number n (λ e. h zero (zero-lt-suc (length l)) e))
    (count_none n s l (λ k b. h (suc k) (suc-le-suc b)))

-- ---- a row more

pub set_inserted : (p : ℕ) (x y : Row) (l : List Row) → p ≤ length l → set (inserted p x l) p y ≡ inserted p y l
unfolding inserted
set_inserted zero x y l h = refl
set_inserted (suc p) x y [] h = absurd (not-suc-le-zero h)
set_inserted (suc p) x y (r ∷ l) h = ap (λ (t : List Row). r ∷ t) (set_inserted p x y l (le_of_suc-le-suc h))

pub get_or_inserted : (p : ℕ) (x d : Row) (l : List Row) → p ≤ length l → get_or (inserted p x l) p d ≡ x
unfolding inserted
get_or_inserted zero x d l h = refl
get_or_inserted (suc p) x d [] h = absurd (not-suc-le-zero h)
get_or_inserted (suc p) x d (r ∷ l) h = get_or_inserted p x d l (le_of_suc-le-suc h)

pub length_inserted : (p : ℕ) (x : Row) (l : List Row) → length (inserted p x l) ≡ suc (length l)
unfolding inserted
length_inserted zero x l = refl
length_inserted (suc p) x [] = refl
length_inserted (suc p) x (r ∷ l) = ap suc (length_inserted p x l)

pub tab_inserted :
    (p u : ℕ) (x : Row) (f g : ℕ → Row) →
    p ≤ u →
    ((k : ℕ) → k < p → g k ≡ f k) →
    g p ≡ x →
    ((k : ℕ) → p ≤ k → k < u → g (suc k) ≡ f k) →
    tab (suc u) g ≡ inserted p x (tab u f)
unfolding inserted
tab_inserted zero u x f g h a b c =
    λ i. b i ∷ tab_same u (λ k. g (suc k)) f (λ k l. c k (omega arith) l) i
tab_inserted (suc p) zero x f g h a b c = absurd (not-suc-le-zero h)
tab_inserted (suc p) (suc u) x f g h a b c =
    λ i. a zero (zero-lt-suc p) i
    ∷ tab_inserted p u x (λ k. f (suc k)) (λ k. g (suc k)) (le_of_suc-le-suc h)
    (λ k l. a (suc k) (suc-le-suc l))
    b
    (λ k l m. c (suc k) (suc-le-suc l) (suc-le-suc m)) i

-- ---- a connection's end

pub ended_tab : (s u : ℕ) (f : ℕ → Row) → ended s (tab u f) ≡ tab u (λ k. ended_row s (f k))
unfolding ended
ended_tab s zero f = refl
ended_tab s (suc u) f = ap (λ (t : List Row). ended_row s (f zero) ∷ t) (ended_tab s u (λ k. f (suc k)))

-- ---- rows that are kept

abbrev pub kept_of : (ℕ → Bool) → (ℕ → Row) → ℕ → List Row
kept_of b f k = also (b k) (f k) []

also_one : (b : Bool) (r : Row) (l : List Row) → also b r l ≡ also b r [] ++ l
also_one true r l = refl
also_one false r l = refl

pub keep_tab : (f : ℕ → Bool) (u : ℕ) (g : ℕ → Row) → keep f (tab u g) ≡ gather u (kept_of (λ k. f (g k).number) g)
unfolding keep gather
keep_tab f zero g = refl
keep_tab f (suc u) g =
    also_one (f (g zero).number) (g zero) (keep f (tab u (λ k. g (suc k))))
    ∙ ap (λ (t : List Row). also (f (g zero).number) (g zero) [] ++ t) (keep_tab f u (λ k. g (suc k)))
    ∙ sym (gather_first u (kept_of (λ k. f (g k).number) g))

pub gather_below :
    (n : ℕ) (f g : ℕ → List Row) → ((k : ℕ) → k < n → f k ≡ g k) → gather n f ≡ gather n g
unfolding gather
gather_below zero f g h = refl
gather_below (suc n) f g h = rw (gather_below n f g (λ k b. h k (omega arith)), h n (omega arith))

-- a table with one row more at its end
pub tab_end : (u : ℕ) (f : ℕ → Row) → tab (suc u) f ≡ tab u f ++ (f u ∷ [])
tab_end zero f = refl
tab_end (suc u) f = ap (λ (t : List Row). f zero ∷ t) (tab_end u (λ k. f (suc k)))

-- ---- tests of all rows

module _ {A : Type 0} (f : A → Bool) where
  pub all_at : (l : List A) (k : ℕ) (d : A) → all f l ≡ true → k < length l → f (get_or l k d) ≡ true
  unfolding all
  all_at [] k d e h = absurd (not-suc-le-zero h)
  all_at (a ∷ l) zero d e h = (both (f a) (all f l) e).0
  all_at (a ∷ l) (suc k) d e h = all_at l k d (both (f a) (all f l) e).1 (le_of_suc-le-suc h)

  pub all_by : (l : List A) (d : A) → ((k : ℕ) → k < length l → f (get_or l k d) ≡ true) → all f l ≡ true
  unfolding all
  all_by [] d h = refl
  all_by (a ∷ l) d h = rw (h zero (zero-lt-suc (length l)), all_by l d (λ k b. h (suc k) (suc-le-suc b)))

-- ---- rising numbers

pub rises_at : (l : List ℕ) (i j : ℕ) → rises l ≡ true → i < j → j < length l → get_or l i 0 < get_or l j 0
unfolding rises
rises_at [] i j e h b = absurd (not-suc-le-zero b)
rises_at (n ∷ l) i zero e h b = absurd (not-suc-le-zero h)
rises_at (n ∷ l) zero (suc j) e h b =
    ltb-true n (get_or l j 0) (all_at (ltb n) l j 0 (both (all (ltb n) l) (rises l) e).0 (le_of_suc-le-suc b))
rises_at (n ∷ l) (suc i) (suc j) e h b =
    rises_at l i j (both (all (ltb n) l) (rises l) e).1 (le_of_suc-le-suc h) (le_of_suc-le-suc b)

-- each is below the next
abbrev pub Steps : List ℕ → Type 0
Steps l = (i : ℕ) → suc i < length l → get_or l i 0 < get_or l (suc i) 0

above_all : (n : ℕ) (l : List ℕ) → (0 < length l → n < get_or l 0 0) → Steps l → (k : ℕ) → k < length l → n < get_or l k 0
above_all n l a s zero h = a h
above_all n l a s (suc k) h =
    let p = above_all n l a s k (omega arith) in
    let q = s k h in
    omega arith

pub rises_by : (l : List ℕ) → Steps l → rises l ≡ true
unfolding rises
rises_by [] s = refl
rises_by (n ∷ l) s =
    let t : Steps l = λ i h. s (suc i) (suc-le-suc h) in
    rw
    (all_by (ltb n) l 0 (λ k h. lt-ltb n (get_or l k 0) (above_all n l (λ b. s zero (suc-le-suc b)) t k h)), rises_by l t)
