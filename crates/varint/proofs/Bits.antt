-- What the machine does with a signed number's bits, as facts about the number: a signed local holds bits, so each fact starts from `to_z
-- w64 (of_z w64 n)`. Assumes nothing.
use Rattle.index.proofs.Kit.{ℕ, ◌<◌, ◌≡◌, refl, sym, ap, ◌∙◌, true, false, arith}
use Prim.Native.Nat.{zero, suc, ◌^◌, zero-le}
use borrow.Author.Tests.{le-ltb}
use lib.Dec.{T}
use lib.IntN.{ℤ, pos, negsuc, ◌-ℤ◌, nat_abs}
use lib.Signed.{mag, lt_z, non_neg}
use mir.Syntax.{w64}
use mir.Val.{Fits, SFits, to_z, of_z}
use mir.Facts.{to_z-of_z, to_z_pos}
use Rattle.varint.specs.Codes.{negative}

pub neg_test : (n : ℤ) → lt_z n (pos 0) ≡ negative n
neg_test (pos n) = le-ltb n 0 zero-le
neg_test (negsuc n) = refl

flip : (n : ℤ) → true ≡ negative n → negsuc 0 -ℤ n ≡ pos (mag n)
flip (pos n) e = let z : ◌≡◌ {A = ℕ} 0 1 = cc in absurd (omega arith)
flip (negsuc n) e = rw (le-ltb (suc n) 1 (omega arith)) (ap pos (omega arith))

same : (n : ℤ) → false ≡ negative n → n ≡ pos (mag n)
same (pos n) e = refl
same (negsuc n) e = let z : ◌≡◌ {A = ℕ} 0 1 = cc in absurd (omega arith)

back : (m : ℕ) → negsuc 0 -ℤ pos m ≡ negsuc m
back zero = refl
back (suc m) = ap negsuc (omega arith)

-- of a parameter n that fits, read back from its bits
module _ (n : ℤ) (f : SFits w64 n) where
  pub read_neg : lt_z (to_z w64 (of_z w64 n)) (pos 0) ≡ negative n
  read_neg = rw (to_z-of_z f) (neg_test n)

  module _ (t : lt_z (to_z w64 (of_z w64 n)) (pos 0) ≡ true) where
    pub flip_fits : SFits w64 (negsuc 0 -ℤ to_z w64 (of_z w64 n))
    flip_fits = rw (to_z-of_z f, flip n (sym t ∙ read_neg)) (record { sfits = f.sfits })

    flip_is : to_z w64 (of_z w64 (negsuc 0 -ℤ to_z w64 (of_z w64 n))) ≡ pos (mag n)
    flip_is = to_z-of_z flip_fits ∙ rw (to_z-of_z f) (flip n (sym t ∙ read_neg))

    pub flip_cast : T (non_neg (to_z w64 (of_z w64 (negsuc 0 -ℤ to_z w64 (of_z w64 n)))))
        × Fits w64 (nat_abs (to_z w64 (of_z w64 (negsuc 0 -ℤ to_z w64 (of_z w64 n)))))
    flip_cast = rw flip_is (tt, record { fits = omega (arith, f.sfits) })

    pub flip_mag : (nat_abs (to_z w64 (of_z w64 (negsuc 0 -ℤ to_z w64 (of_z w64 n)))) ≡ mag n)
        × (nat_abs (to_z w64 (of_z w64 (negsuc 0 -ℤ to_z w64 (of_z w64 n)))) < 2 ^ 63)
    flip_mag = rw flip_is (refl, f.sfits)

  module _ (t : lt_z (to_z w64 (of_z w64 n)) (pos 0) ≡ false) where
    same_is : to_z w64 (of_z w64 n) ≡ pos (mag n)
    same_is = to_z-of_z f ∙ same n (sym t ∙ read_neg)

    pub same_cast : T (non_neg (to_z w64 (of_z w64 n))) × Fits w64 (nat_abs (to_z w64 (of_z w64 n)))
    same_cast = rw same_is (tt, record { fits = omega (arith, f.sfits) })

    pub same_mag : (nat_abs (to_z w64 (of_z w64 n)) ≡ mag n) × (nat_abs (to_z w64 (of_z w64 n)) < 2 ^ 63)
    same_mag = rw same_is (refl, f.sfits)

-- of an unsigned number below half the range, read as signed
module _ (m : ℕ) (h : m < 2 ^ 63) where
  pub back_fits : SFits w64 (negsuc 0 -ℤ to_z w64 m)
  back_fits = rw (to_z_pos w64 h, back m) (record { sfits = h })

  pub back_is : to_z w64 (of_z w64 (negsuc 0 -ℤ to_z w64 m)) ≡ negsuc m
  back_is = to_z-of_z back_fits ∙ rw (to_z_pos w64 h) (back m)
