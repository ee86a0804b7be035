-- What the limits say of a number by its field, where 147 codes are those of numbers between their limits: its magnitude, `size`, is
-- between the magnitudes of its limits, and its sign is known. Each test of a row of limits is computed.
-- Assumes nothing.
use Rattle.index.proofs.Kit.{ℕ, ◌+◌, ◌*◌, ◌<◌, ◌≤◌, ◌≡◌, sym, ap, ◌∙◌, Bool, true, arith, every}
use Prim.Native.Nat.{◌/◌}
use mathlib.Core.Bool.{◌&&◌}
use mathlib.Core.List.{List, map}
use lib.Dec.{T, leb, leb→le}
use lib.ListN.{get_or, get_or-map}
use lib.IntN.{ℤ, pos, negsuc, neg_ℤ, nat_abs}
use lib.Signed.{le_z}
use mir.Facts.{and_yes}
use Rattle.index.proofs.Index.{every_at}
use Rattle.varint.specs.Codes.{code_of, number_of}
use Rattle.varint.proofs.CodeLaws.{code_size, code_number}
use Rattle.records.specs.Records.{param_count}
use Rattle.limits.specs.Limits.{limit_at, field_of, at, lies, in_limits}
use Rattle.limits.proofs.LimitLaws.{sides, size_most, size_above, size_below, gain_is, loss_is, gain_sign, loss_sign}

-- the magnitude of number i
abbrev pub size : List ℕ → ℕ → ℕ
size codes i = (get_or codes i 0 + 1) / 2

-- the codes are those of numbers between their limits
abbrev pub Within : List ℕ → Type 0
Within codes = every param_count (in_limits (map number_of codes)) ≡ true

-- number i of the codes
pub number_at : (codes : List ℕ) (i : ℕ) → at (map number_of codes) i ≡ number_of (get_or codes i 0)
number_at codes i = get_or-map number_of codes i 0

pub code_in_lem : (codes : List ℕ) (i : ℕ) (r : Bool) → r ≡ lies (number_of (get_or codes i 0)) (limit_at (field_of i)) → r
    ≡ in_limits (map number_of codes) i
unfolding in_limits
code_in_lem codes i r e = e ∙ ap (λ (x : ℤ). lies x (limit_at (field_of i))) (sym (number_at codes i))

pub code_at : (codes : List ℕ) (i : ℕ) → get_or codes i 0 ≡ code_of (at (map number_of codes) i)
code_at codes i = sym (ap code_of (number_at codes i) ∙ code_number (get_or codes i 0))

-- ---- f is the field of number i
module _ (codes : List ℕ) (ok : Within codes) (i : ℕ) (h : i < param_count) (f : ℕ) (e : field_of i ≡ f) where
  both_sides : T (le_z (limit_at f).low (number_of (get_or codes i 0))) × T (le_z (number_of (get_or codes i 0)) (limit_at f).high)
  both_sides = rw (e, number_at codes i) at (sides (map number_of codes) i (every_at (in_limits (map number_of codes)) param_count i ok h))

  pub most_of : (m : ℕ) → T (leb (nat_abs (limit_at f).low) m && leb (nat_abs (limit_at f).high) m) → size codes i ≤ m
  most_of m t =
      let l = limit_at f in
      let u = and_yes (leb (nat_abs l.low) m) (leb (nat_abs l.high) m) t in
      rw code_size at
      (size_most l.low (number_of (get_or codes i 0)) l.high m both_sides.0 both_sides.1 (leb→le (nat_abs l.low) m u.0)
      (leb→le (nat_abs l.high) m u.1))

  at_least : (l : ℤ) (m : ℕ) → T (leb m (nat_abs l)) → nat_abs l ≤ nat_abs (number_of (get_or codes i 0)) → m ≤ size codes i
  at_least l m t h = omega (arith, leb→le m (nat_abs l) t, code_size (get_or codes i 0))

  -- of a field that is not negative, and of one that is not positive
  pub least_of : (m : ℕ) → T (le_z (pos 0) (limit_at f).low && leb m (nat_abs (limit_at f).low)) → m ≤ size codes i
  least_of m t =
      let l = (limit_at f).low in
      let u = and_yes (le_z (pos 0) l) (leb m (nat_abs l)) t in
      at_least l m u.1 (size_above l (number_of (get_or codes i 0)) u.0 both_sides.0)

  pub loss_least : (m : ℕ) → T (le_z (limit_at f).high (pos 0) && leb m (nat_abs (limit_at f).high)) → m ≤ size codes i
  loss_least m t =
      let l = (limit_at f).high in
      let u = and_yes (le_z l (pos 0)) (leb m (nat_abs l)) t in
      at_least l m u.1 (size_below (number_of (get_or codes i 0)) l u.0 both_sides.1)

  pub gain_of : T (le_z (pos 0) (limit_at f).low) → pos (size codes i) ≡ number_of (get_or codes i 0)
  gain_of t = rw code_size at (gain_is (limit_at f).low (number_of (get_or codes i 0)) t both_sides.0)

  pub loss_of : T (le_z (limit_at f).high (pos 0)) → neg_ℤ (pos (size codes i)) ≡ number_of (get_or codes i 0)
  loss_of t = rw code_size at (loss_is (number_of (get_or codes i 0)) (limit_at f).high t both_sides.1)

  -- the sign of the number itself
  pub gain_at : T (le_z (pos 0) (limit_at f).low) → T (le_z (pos 0) (at (map number_of codes) i))
  gain_at t = rw (number_at codes i) (gain_sign (limit_at f).low (number_of (get_or codes i 0)) t both_sides.0)

  pub loss_at : T (le_z (limit_at f).high (negsuc 0)) → T (le_z (at (map number_of codes) i) (negsuc 0))
  loss_at t = rw (number_at codes i) (loss_sign (number_of (get_or codes i 0)) (limit_at f).high t both_sides.1)

  -- the code by the magnitude
  pub gain_code : T (le_z (pos 0) (limit_at f).low) → get_or codes i 0 ≡ 2 * size codes i
  gain_code t = sym (code_number (get_or codes i 0)) ∙ ap code_of (sym (gain_of t))

  pub loss_code : T (le_z (limit_at f).high (negsuc 0)) → get_or codes i 0 + 1 ≡ 2 * size codes i
  loss_code t =
      odd (number_of (get_or codes i 0)) (code_number (get_or codes i 0))
      (loss_sign (number_of (get_or codes i 0)) (limit_at f).high t both_sides.1)
    where
      odd : (x : ℤ) → code_of x ≡ get_or codes i 0 → T (le_z x (negsuc 0)) → get_or codes i 0 + 1 ≡ 2 * size codes i
      odd (pos n) e s = absurd s
      odd (negsuc n) e s = omega arith
