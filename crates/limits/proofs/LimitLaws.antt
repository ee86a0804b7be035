-- Laws of the limits: what a number between them is, and the tests of numbers that were read from an array.
-- Assumes nothing.
use Prim.Native.Nat.{ℕ, zero, suc, ◌+◌, ◌^◌, ◌<◌, ◌≤◌}
use mathlib.Core.Path.{◌≡◌, refl, sym, ap, ◌∙◌, subst}
use mathlib.Core.Bool.{Bool, true, ◌&&◌}
use mathlib.Core.List.{List, [], ◌∷◌}
use native.Mathlib.Omega.{arith}
use borrow.Author.Tests.{lt-ltb, le-ltb}
use lib.Dec.{T, ltb, leb, leb-zero, ltb→lt, leb→le}
use lib.ListN.{get_or}
use lib.IntN.{ℤ, pos, negsuc, neg_ℤ, nat_abs}
use lib.Signed.{le_z, mag}
use mir.Syntax.{w64}
use mir.Val.{SFits, to_z, of_z}
use mir.Facts.{and_yes, to_z-of_z, sfits_lit}
use Rattle.index.proofs.Index.{both}
use Rattle.varint.specs.Codes.{code_of}
use Rattle.limits.specs.declared.Limit.{Limit}
use Rattle.limits.specs.Limits.{general_count, of_topic, place, to, limits, field_of, limit_at, at, lies, in_limits}

-- the field of a general number, and of topic k's j-th
pub general_field : (i : ℕ) → i < general_count → field_of i ≡ i
general_field i h = rw (lt-ltb i general_count h) refl

pub topic_field : (k j : ℕ) → j < of_topic → field_of (place k j) ≡ general_count + j
topic_field k j h = rw (le-ltb (place k j) general_count (omega arith)) (omega arith)

-- a row of the table
pub limit_in : (t : List Limit) (f : ℕ) → t ≡ limits → get_or t f (to (pos 0) (pos 0)) ≡ limit_at f
unfolding limit_at
limit_in t f e = ap (λ (u : List Limit). get_or u f (to (pos 0) (pos 0))) e

pub yes : (b : Bool) → b ≡ true → T b
yes b e = subst T (sym e) tt

-- the two halves of being between the limits
pub sides : (xs : List ℤ) (i : ℕ) → in_limits xs i ≡ true → T (le_z (limit_at (field_of i)).low (at xs i))
    × T (le_z (at xs i) (limit_at (field_of i)).high)
unfolding in_limits
sides xs i e =
    let h = both (le_z (limit_at (field_of i)).low (at xs i)) (le_z (at xs i) (limit_at (field_of i)).high) e in
    (yes (le_z (limit_at (field_of i)).low (at xs i)) h.0, yes (le_z (at xs i) (limit_at (field_of i)).high) h.1)

-- ---- a number between two others: its magnitude, its sign and its code
pub size_most : (lo x hi : ℤ) (m : ℕ) → T (le_z lo x) → T (le_z x hi) → nat_abs lo ≤ m → nat_abs hi ≤ m → nat_abs x ≤ m
size_most lo (pos n) (pos h) m a b p q = omega (arith, leb→le n h b)
size_most lo (pos n) (negsuc h) m a b p q = absurd b
size_most (pos l) (negsuc n) hi m a b p q = absurd a
size_most (negsuc l) (negsuc n) hi m a b p q = omega (arith, leb→le n l a)

-- above one that is not negative, and below one that is negative
pub size_above : (lo x : ℤ) → T (le_z (pos 0) lo) → T (le_z lo x) → nat_abs lo ≤ nat_abs x
size_above (pos l) (pos n) a b = leb→le l n b
size_above (pos l) (negsuc n) a b = absurd b
size_above (negsuc l) x a b = absurd a

pub size_below : (x hi : ℤ) → T (le_z hi (pos 0)) → T (le_z x hi) → nat_abs hi ≤ nat_abs x
size_below x (pos h) a b = omega (arith, leb→le h 0 a)
size_below (pos n) (negsuc h) a b = absurd b
size_below (negsuc n) (negsuc h) a b = omega (arith, leb→le h n b)

pub gain_is : (lo x : ℤ) → T (le_z (pos 0) lo) → T (le_z lo x) → pos (nat_abs x) ≡ x
gain_is lo (pos n) a b = refl
gain_is (pos l) (negsuc n) a b = absurd b
gain_is (negsuc l) (negsuc n) a b = absurd a

pub loss_is : (x hi : ℤ) → T (le_z hi (pos 0)) → T (le_z x hi) → neg_ℤ (pos (nat_abs x)) ≡ x
loss_is (pos zero) hi a b = refl
loss_is (pos (suc n)) (pos h) a b = absurd (omega (arith, leb→le h 0 a, leb→le (suc n) h b))
loss_is (pos (suc n)) (negsuc h) a b = absurd b
loss_is (negsuc n) hi a b = refl

-- the sign of a number above one that is not negative, and below one that is negative
pub gain_sign : (lo x : ℤ) → T (le_z (pos 0) lo) → T (le_z lo x) → T (le_z (pos 0) x)
gain_sign lo (pos n) a b = yes (leb 0 n) (leb-zero n)
gain_sign (pos l) (negsuc n) a b = absurd b
gain_sign (negsuc l) (negsuc n) a b = absurd a

pub loss_sign : (x hi : ℤ) → T (le_z hi (negsuc 0)) → T (le_z x hi) → T (le_z x (negsuc 0))
loss_sign (negsuc n) hi a b = yes (leb 0 n) (leb-zero n)
loss_sign (pos n) (pos h) a b = absurd a
loss_sign (pos n) (negsuc h) a b = absurd b

code_le : (lo x hi : ℤ) → T (le_z lo x) → T (le_z x hi) → code_of x ≤ code_of lo + code_of hi
code_le lo (pos n) (pos h) a b = omega (arith, leb→le n h b)
code_le lo (pos n) (negsuc h) a b = absurd b
code_le (pos l) (negsuc n) hi a b = absurd a
code_le (negsuc l) (negsuc n) hi a b = omega (arith, leb→le n l a)

-- a rule of every row of the table: one test that is computed
abbrev pub rows : (Limit → Bool) → List Limit → Bool
rows f [] = true
rows f (r ∷ rs) = f r && rows f rs

pub row_at : (f : Limit → Bool) (rs : List Limit) (d : Limit) → T (rows f rs) → T (f d) → (i : ℕ) → T (f (get_or rs i d))
row_at f [] d t h i = h
row_at f (r ∷ rs) d t h zero = (and_yes (f r) (rows f rs) t).0
row_at f (r ∷ rs) d t h (suc i) = row_at f rs d (and_yes (f r) (rows f rs) t).1 h i

abbrev small_codes : Limit → Bool
small_codes r = ltb (code_of r.low) 2000000001 && ltb (code_of r.high) 2000000001

small_codes_lem : (f : ℕ) → T (small_codes (limit_at f))
unfolding limit_at limits
small_codes_lem f = row_at small_codes limits (to (pos 0) (pos 0)) tt tt f

-- the code of a number between its limits takes at most five groups
pub code_few : (xs : List ℤ) (i : ℕ) → in_limits xs i ≡ true → code_of (at xs i) < 34359738368
code_few xs i e =
    let l = limit_at (field_of i) in
    let h = sides xs i e in
    let s = and_yes (ltb (code_of l.low) 2000000001) (ltb (code_of l.high) 2000000001) (small_codes_lem (field_of i)) in
    omega (
      arith,
      code_le l.low (at xs i) l.high h.0 h.1,
      ltb→lt (code_of l.low) 2000000001 s.0,
      ltb→lt (code_of l.high) 2000000001 s.1,
    )

-- ---- numbers read from an array, whose bits are read back
abbrev fitting : Limit → Bool
fitting r = ltb (mag r.low) (2 ^ 63) && ltb (mag r.high) (2 ^ 63)

limit_fits : (f : ℕ) → SFits w64 (limit_at f).low × SFits w64 (limit_at f).high
unfolding limit_at limits
limit_fits f =
    let l = limit_at f in
    let s = and_yes (ltb (mag l.low) (2 ^ 63)) (ltb (mag l.high) (2 ^ 63)) (row_at fitting limits (to (pos 0) (pos 0)) tt tt f) in
    (sfits_lit s.0, sfits_lit s.1)

pub lies_between :
    (x : ℤ) (l : Limit) (r : Bool) → SFits w64 x → SFits w64 l.low → SFits w64 l.high →
    r ≡ (le_z (to_z w64 (of_z w64 l.low)) (to_z w64 (of_z w64 x)) && le_z (to_z w64 (of_z w64 x)) (to_z w64 (of_z w64 l.high))) → r ≡ lies x l
lies_between x l r fx low high e = rw (to_z-of_z fx, to_z-of_z low, to_z-of_z high) at e

-- the limits of a field, taken from the table
pub lies_at :
    (x : ℤ) (f i : ℕ) (l : Limit) (r : Bool) → l ≡ limit_at f → f ≡ field_of i →
    r ≡ (le_z (to_z w64 (of_z w64 l.low)) x && le_z x (to_z w64 (of_z w64 l.high))) → r ≡ lies x (limit_at (field_of i))
lies_at x f i l r el ef e =
    let d = limit_fits f in
    (rw (el, to_z-of_z d.0, to_z-of_z d.1) at e) ∙ ap (λ (k : ℕ). lies x (limit_at k)) ef

-- the code of a number that a call was given
pub code_of_given : (n : ℤ) (v : ℕ) → SFits w64 n → v ≡ code_of (to_z w64 (of_z w64 n)) → v ≡ code_of n
code_of_given n v h e = e ∙ ap code_of (to_z-of_z h)
