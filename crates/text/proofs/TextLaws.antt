-- Laws of decimal text: its last digit, its length, and how it is stored from the front.
-- Assumes nothing.
use Rattle.index.proofs.Kit.{ℕ, ◌+◌, ◌<◌, ◌≤◌, Bool, true, false, ◌≡◌, refl, sym, ap, ◌∙◌, arith, by_order}
use Prim.Native.Nat.{zero, suc, ◌/◌, ◌%◌, ◌^◌}
use mathlib.Core.Bool.{cond}
use mathlib.Core.List.{List, [], ◌∷◌, ◌++◌}
use native.Mathlib.Nat.{pow-suc}
use native.Mathlib.Numerals.{add-one}
use borrow.Author.Tests.{lt-ltb, le-ltb}
use lib.Dec.{ltb}
use lib.ListN.{length, set, length-append}
use lib.IntN.{ℤ, pos, negsuc, nat_abs}
use mir.Syntax.{w64}
use mir.Val.{SFits, to_z, of_z}
use mir.Facts.{to_z-of_z}
use Rattle.varint.specs.Codes.{negative}
use Rattle.index.proofs.Lists.{sets_append}
use Rattle.text.specs.Text.{digits, decimal, signed_text, Stored}

-- more room changes nothing
digits_room : (k m n : ℕ) → n ≤ k → n ≤ m → digits k n ≡ digits m n
unfolding digits
digits_room zero zero n h l = refl
digits_room zero (suc m) n h l = rw (lt-ltb n 10 (omega arith))
digits_room (suc k) zero n h l = rw (lt-ltb n 10 (omega arith))
digits_room (suc k) (suc m) n h l =
    by_order (digits (suc k) n ≡ digits (suc m) n) n 10
    (λ t. rw (lt-ltb n 10 t))
    (λ t.
    ap
    (λ (l : List ℕ). cond (ltb n 10) ((48 + n) ∷ []) (l ++ ((48 + n % 10) ∷ [])))
    (digits_room k m (n / 10) (omega arith) (omega arith)))

-- ---- the two rules of `decimal`
pub decimal_last : (n : ℕ) → n < 10 → decimal n ≡ (48 + n) ∷ []
unfolding decimal digits
decimal_last zero h = refl
decimal_last (suc n) h = rw (lt-ltb (suc n) 10 h)

pub decimal_more : (n : ℕ) → 10 ≤ n → decimal n ≡ decimal (n / 10) ++ ((48 + n % 10) ∷ [])
unfolding decimal digits
decimal_more zero h = absurd (omega arith)
decimal_more (suc n) h =
    rw (le-ltb (suc n) 10 h)
    (ap (λ (l : List ℕ). l ++ ((48 + suc n % 10) ∷ [])) (digits_room n (suc n / 10) (suc n / 10) (omega arith) (omega arith)))

-- ---- how long it is
pub length_last : (n : ℕ) → n < 10 → length (decimal n) ≡ 1
length_last n h = ap length (decimal_last n h)

pub length_more : (n : ℕ) → 10 ≤ n → length (decimal n) ≡ length (decimal (n / 10)) + 1
length_more n h = ap length (decimal_more n h) ∙ simp length-append

pub length_pos : (n : ℕ) → 0 < length (decimal n)
length_pos n = by_order (0 < length (decimal n)) n 10 (λ t. omega (arith, length_last n t)) (λ t. omega (arith, length_more n t))

-- a number of at most k + 1 digits
pub length_le : (k n : ℕ) → n < 10 ^ suc k → length (decimal n) ≤ suc k
length_le zero n h = omega (arith, length_last n h)
length_le (suc k) n h =
    by_order (length (decimal n) ≤ suc (suc k)) n 10
    (λ t. omega (arith, length_last n t))
    (λ t. omega (arith, length_more n t, length_le k (n / 10) (omega (arith, pow-suc 10 (suc k)))))

pub decimal_length : (n : ℕ) → n < 18446744073709551616 → length (decimal n) ≤ 20
decimal_length n h = length_le 19 n (omega arith)

-- ---- the text of a number with a sign, from its magnitude
pub signed_neg : (z : ℤ) (m : ℕ) → m ≡ nat_abs z → true ≡ negative z → signed_text z ≡ 45 ∷ decimal m
unfolding signed_text
signed_neg (pos n) m e t = let z : ◌≡◌ {A = ℕ} 0 1 = cc in absurd (omega arith)
signed_neg (negsuc n) m e t = rw e

pub signed_pos : (z : ℤ) (m : ℕ) → m ≡ nat_abs z → false ≡ negative z → signed_text z ≡ decimal m
unfolding signed_text
signed_pos (pos n) m e t = rw e
signed_pos (negsuc n) m e t = let z : ◌≡◌ {A = ℕ} 0 1 = cc in absurd (omega arith)

-- the same of a number that fits, as `put_signed` has it from its two calls
module _
    (z : ℤ) (m : ℕ) (b : Bool)
    (f : SFits w64 z)
    (e : m ≡ nat_abs (to_z w64 (of_z w64 z)))
    (t : b ≡ negative (to_z w64 (of_z w64 z)))
  where
    pub text_neg : b ≡ true → signed_text z ≡ 45 ∷ decimal m
    text_neg y = signed_neg z m (rw (to_z-of_z f) at e) (sym y ∙ rw (to_z-of_z f) at t)

    pub text_pos : b ≡ false → signed_text z ≡ decimal m
    text_pos y = signed_pos z m (rw (to_z-of_z f) at e) (sym y ∙ rw (to_z-of_z f) at t)

pub signed_length : (z : ℤ) → nat_abs z < 18446744073709551616 → length (signed_text z) ≤ 21
signed_length (pos n) h = rw (signed_pos (pos n) n refl refl) (omega (arith, decimal_length n h))
signed_length (negsuc m) h = rw (signed_neg (negsuc m) (suc m) refl refl) (omega (arith, decimal_length (suc m) h))

-- ---- how it is stored
-- bytes stored, and others after them
pub stored_then :
    (buf : List ℕ) (at r : ℕ) (p out : List ℕ) (s : ℕ) (q end : List ℕ) → Stored buf at p r out → Stored out r q s end →
    Stored buf at (p ++ q) s end
stored_then buf at r p out s q end a b =
    (simp length-append (omega (arith, a.0, b.0)), b.1 ∙ rw (sets_append buf at p q, ← a.0, ← a.1))

-- the same bytes by another name
pub stored_same : (buf : List ℕ) (at r : ℕ) (all bytes out : List ℕ) → all ≡ bytes → Stored buf at bytes r out → Stored buf at all r out
stored_same buf at r all bytes out e s = rw e s

-- one byte stored, and bytes after it
pub stored_first :
    (buf : List ℕ) (at b r : ℕ) (all bytes out : List ℕ) → all ≡ b ∷ bytes → Stored (set buf at b) (at + 1) bytes r out →
    Stored buf at all r out
stored_first buf at b r all bytes out e s = rw e (omega (arith, s.0), s.1 ∙ rw (add-one at))

pub stored_last : (buf : List ℕ) (at n : ℕ) → n < 10 → Stored buf at (decimal n) (at + 1) (set buf at (48 + n))
stored_last buf at n h = rw (decimal_last n h) (refl, refl)

pub stored_more :
    (buf : List ℕ) (at n r : ℕ) (out : List ℕ) → 10 ≤ n → Stored buf at (decimal (n / 10)) r out →
    Stored buf at (decimal n) (r + 1) (set out r (48 + n % 10))
stored_more buf at n r out h s =
    rw (decimal_more n h)
    (stored_then buf at r (decimal (n / 10)) out (r + 1) ((48 + n % 10) ∷ []) (set out r (48 + n % 10)) s (refl, refl))
