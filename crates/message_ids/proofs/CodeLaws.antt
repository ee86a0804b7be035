-- The order of ids: of two runs of digits the first that differs decides, and more digits make a number no smaller.
-- Assumes nothing.
use Rattle.index.proofs.Kit.{ℕ, ◌+◌, ◌<◌, ◌≤◌, ◌≡◌, refl, sym, true, arith, by_order, by_test, every_none, every_more}
use Rattle.index.specs.Index.{every}
use Prim.Native.Nat.{zero, suc}
use mathlib.Core.List.{List}
use borrow.Author.Tests.{eqb-true, eqb-false, eq-eqb, ltb-true, ltb-false}
use lib.Dec.{eqb}
use lib.ListN.{get_or, length, take, drop, length-drop}
use lib.Seq.{drop-cons, length-take-le}
use Rattle.std.specs.Prelude.{nat_lt}
use Rattle.std.specs.Ordering.{nat_cmp, ordering_then}
use Rattle.std.specs.Cmp.Lexicographic.{slice_cmp}
use Rattle.index.proofs.Index.{both}
use Rattle.message_ids.specs.Ids.{same_at, digits, code_of, Compared}
use Rattle.std.specs.declared.cmp.Ordering.{Ordering}
use Rattle.std.specs.declared.cmp.Ordering.TheVariants.{Less, Equal, Greater}

-- further digits keep the order of two runs
digits_on : (a b : List ℕ) (i j t p q n : ℕ) → t ≤ n → digits a i t p < digits b j t q → digits a i n p < digits b j n q
unfolding digits
digits_on a b i j t p q zero l h = let z : t ≡ zero = omega arith in rw z at h
digits_on a b i j t p q (suc n) l h =
    by_order (digits a i (suc n) p < digits b j (suc n) q) n t
    (λ m. let z : t ≡ suc n = omega arith in rw z at h)
    (λ m. let k = digits_on a b i j t p q n m h in omega arith)

digits_grow : (b : List ℕ) (j t q n : ℕ) → t ≤ n → digits b j t q ≤ digits b j n q
unfolding digits
digits_grow b j t q zero l = let z : t ≡ zero = omega arith in rw z (omega arith)
digits_grow b j t q (suc n) l =
    by_order (digits b j t q ≤ digits b j (suc n) q) n t
    (λ m. let z : t ≡ suc n = omega arith in rw z (omega arith))
    (λ m. let k = digits_grow b j t q n m in omega arith)

-- the same bytes are the same digits
pub digits_same : (a b : List ℕ) (i j p n : ℕ) → every n (same_at a i b j) ≡ true → digits a i n p ≡ digits b j n p
unfolding digits every
digits_same a b i j p zero e = refl
digits_same a b i j p (suc n) e =
    let h = both (every n (same_at a i b j)) (same_at a i b j n) e in
    let x = eqb-true (get_or a (i + n) 0) (get_or b (j + n) 0) h.1 in
    rw (digits_same a b i j p n h.0, x)

-- the shorter id
shorter : (a b : List ℕ) (i j n m : ℕ) → n < m → code_of a i n < code_of b j m
unfolding digits
shorter a b i j n m h =
    let l : digits a i n n < digits b j n m = digits_on a b i j 0 n m n (omega arith) h in
    let g = digits_grow b j n m m (omega arith) in
    omega arith

-- of one length, the first byte that differs
first_byte :
    (a b : List ℕ) (i j n k : ℕ) → k < n → every k (same_at a i b j) ≡ true → get_or b (j + k) 0 < 256 →
    get_or a (i + k) 0 < get_or b (j + k) 0 → code_of a i n < code_of b j n
unfolding digits
first_byte a b i j n k h e y l =
    let s = digits_same a b i j n k e in
    let one : digits a i (suc k) n < digits b j (suc k) n = omega arith in
    digits_on a b i j (suc k) n n n h one

eq_self : (x : ℕ) → eqb x x ≡ true
eq_self x = eq-eqb x x refl

turned : (a b : List ℕ) (i j n : ℕ) → every n (same_at a i b j) ≡ true → every n (same_at b j a i) ≡ true
unfolding every
turned a b i j zero e = refl
turned a b i j (suc n) e =
    let h = both (every n (same_at a i b j)) (same_at a i b j n) e in
    let x = eqb-true (get_or a (i + n) 0) (get_or b (j + n) 0) h.1 in
    rw (turned a b i j n h.0, x) (eq_self (get_or b (j + n) 0))

-- ---- the ends of `compare`
module _ (a : List ℕ) (i n : ℕ) (b : List ℕ) (j m : ℕ) where
  is_before : code_of a i n < code_of b j m → Compared a i n b j m Less
  is_before h =
      record {
        before = λ e. h;
        after = λ e. let z : ◌≡◌ {A = ℕ} 0 1 = cc in absurd (omega arith);
        same = λ e. let z : ◌≡◌ {A = ℕ} 0 1 = cc in absurd (omega arith);
      }

  is_after : code_of b j m < code_of a i n → Compared a i n b j m Greater
  is_after h =
      record {
        before = λ e. let z : ◌≡◌ {A = ℕ} 0 1 = cc in absurd (omega arith);
        after = λ e. h;
        same = λ e. let z : ◌≡◌ {A = ℕ} 0 1 = cc in absurd (omega arith);
      }

  compared_short : n < m → Compared a i n b j m Less
  compared_short h = is_before (shorter a b i j n m h)

  compared_long : m < n → Compared a i n b j m Greater
  compared_long h = is_after (shorter b a j i m n h)

  module _ (p : n ≤ m) (q : m ≤ n) (k : ℕ) (e : every k (same_at a i b j) ≡ true) where
    compared_less : k < n → get_or b (j + k) 0 < 256 → get_or a (i + k) 0 < get_or b (j + k) 0 → Compared a i n b j m Less
    compared_less h y l =
        let z : m ≡ n = omega arith in
        is_before (rw z (first_byte a b i j n k h e y l))

    compared_more : k < n → get_or a (i + k) 0 < 256 → get_or b (j + k) 0 < get_or a (i + k) 0 → Compared a i n b j m Greater
    compared_more h y l =
        let z : m ≡ n = omega arith in
        is_after (rw z (first_byte b a j i n k h (turned a b i j k e) y l))

    compared_same : k ≤ n → n ≤ k → Compared a i n b j m Equal
    compared_same h l =
        let z : k ≡ m = omega arith in
        record {
          before = λ f. let y : ◌≡◌ {A = ℕ} 0 1 = cc in absurd (omega arith);
          after = λ f. let y : ◌≡◌ {A = ℕ} 0 1 = cc in absurd (omega arith);
          same = λ f. (omega arith, rw z at e);
        }

-- one byte more
same_next :
    (a : List ℕ) (i : ℕ) (b : List ℕ) (j k : ℕ) → every k (same_at a i b j) ≡ true → get_or b (j + k) 0 ≤ get_or a (i + k) 0 →
    get_or a (i + k) 0 ≤ get_or b (j + k) 0 → every (k + 1) (same_at a i b j) ≡ true
same_next a i b j k e h l =
    every_more (same_at a i b j) k e (eq-eqb (get_or a (i + k) 0) (get_or b (j + k) 0) (omega arith))

-- ---- the end of `compare_row`: what the library's order of the two runs says
module _ (a : List ℕ) (i : ℕ) (b : List ℕ) (j n : ℕ) (h : i + n ≤ length a) (l : j + n ≤ length b)
    (low_a : (k : ℕ) → get_or a k 0 < 256) (low_b : (k : ℕ) → get_or b k 0 < 256) where
  walked :
      (m k : ℕ) → k + m ≡ n → every k (same_at a i b j) ≡ true →
      Compared a i n b j n (slice_cmp nat_cmp (take m (drop (i + k) a)) (take m (drop (j + k) b)))
  walked zero k e same = compared_same a i n b j n (omega arith) (omega arith) k same (omega arith) (omega arith)
  walked (suc m) k e same =
      let x = get_or a (i + k) 0 in
      let y = get_or b (j + k) 0 in
      rw (drop-cons a (i + k) 0 (omega arith), drop-cons b (j + k) 0 (omega arith))
      (by_test
      (Compared a i n b j n (ordering_then (nat_cmp x y) (slice_cmp nat_cmp (take m (drop (suc (i + k)) a)) (take m (drop (suc (j + k)) b)))))
      (nat_lt x y)
      (λ t. rw t (compared_less a i n b j n (omega arith) (omega arith) k same (omega arith) (low_b (j + k)) (ltb-true x y t)))
      (λ t.
      by_test
      (Compared a i n b j n (ordering_then (nat_cmp x y) (slice_cmp nat_cmp (take m (drop (suc (i + k)) a)) (take m (drop (suc (j + k)) b)))))
      (eqb x y)
      (λ u.
      let z : x ≡ y = eqb-true x y u in
      let c : i + (k + 1) ≡ suc (i + k) = omega arith in
      let d : j + (k + 1) ≡ suc (j + k) = omega arith in
      rw (t, u) (rw (c, d) at (walked m (k + 1) (omega arith) (same_next a i b j k same (omega (arith, z)) (omega (arith, z))))))
      (λ u. rw (t, u) (compared_more a i n b j n (omega arith) (omega arith) k same (omega arith) (low_a (i + k))
      (omega (arith, ltb-false x y t, eqb-false x y u))))))

  same_length : Compared a i n b j n (slice_cmp nat_cmp (take n (drop i a)) (take n (drop j b)))
  same_length =
      let c : i + 0 ≡ i = omega arith in
      let d : j + 0 ≡ j = omega arith in
      rw (c, d) at (walked n 0 (omega arith) (every_none (same_at a i b j)))

pub compared_runs :
    (a : List ℕ) (i n : ℕ) (b : List ℕ) (j m : ℕ) → i + n ≤ length a → j + m ≤ length b → ((k : ℕ) → get_or a k 0 < 256) →
    ((k : ℕ) → get_or b k 0 < 256) →
    Compared a i n b j m (ordering_then (nat_cmp n m) (slice_cmp nat_cmp (take n (drop i a)) (take m (drop j b))))
compared_runs a i n b j m h l p q =
    by_test (Compared a i n b j m (ordering_then (nat_cmp n m) (slice_cmp nat_cmp (take n (drop i a)) (take m (drop j b))))) (nat_lt n m)
    (λ t. rw t (compared_short a i n b j m (ltb-true n m t)))
    (λ t.
    by_test (Compared a i n b j m (ordering_then (nat_cmp n m) (slice_cmp nat_cmp (take n (drop i a)) (take m (drop j b))))) (eqb n m)
    (λ u. let z : n ≡ m = eqb-true n m u in rw (t, u) (rw (sym z) (same_length a i b j n h (omega (arith, z)) p q)))
    (λ u. rw (t, u) (compared_long a i n b j m (omega (arith, ltb-false n m t, eqb-false n m u)))))

-- the same of two slices
pub compared_slices :
    (a : List ℕ) (i n : ℕ) (b : List ℕ) (j m : ℕ) → i + n ≤ length a → j + m ≤ length b → ((k : ℕ) → get_or a k 0 < 256) →
    ((k : ℕ) → get_or b k 0 < 256) → (x y : ℕ) (r : Ordering) →
    r
    ≡ ordering_then (nat_cmp (length (take x (drop i a))) (length (take y (drop j b))))
    (slice_cmp nat_cmp (take x (drop i a)) (take y (drop j b))) →
    x ≡ n → y ≡ m → Compared a i n b j m r
compared_slices a i n b j m h l p q x y r g e f =
    let u : length (take n (drop i a)) ≡ n = length-take-le n (drop i a) (omega (arith, length-drop i a)) in
    let v : length (take m (drop j b)) ≡ m = length-take-le m (drop j b) (omega (arith, length-drop j b)) in
    let w : r ≡ ordering_then (nat_cmp n m) (slice_cmp nat_cmp (take n (drop i a)) (take m (drop j b))) = rw (e, f, u, v) at g in
    rw w (compared_runs a i n b j m h l p q)
