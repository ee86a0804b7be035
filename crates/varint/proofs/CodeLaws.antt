-- Codes of signed numbers: `code_of` and `number_of` undo each other, and the magnitude of a number can be had from its code.
-- Assumes nothing.
use Rattle.index.proofs.Kit.{ℕ, ◌+◌, ◌*◌, ◌≡◌, refl, Bool, true, false, arith}
use Prim.Native.Nat.{◌/◌, ◌%◌}
use mathlib.Core.Path.{ap₂}
use borrow.Author.Tests.{eq-eqb, ne_eqb, eqb-true, eqb-false}
use lib.Dec.{eqb}
use lib.IntN.{ℤ, pos, negsuc, nat_abs}
use lib.Signed.{mag}
use Rattle.varint.specs.Codes.{negative, signed_of, code_of, number_of}

pub number_code : (n : ℤ) → number_of (code_of n) ≡ n
number_code (pos n) = ap₂ signed_of (ne_eqb (2 * n % 2) 1 (λ e. omega arith)) (omega arith)
number_code (negsuc n) = ap₂ signed_of (eq-eqb ((2 * n + 1) % 2) 1 (omega arith)) (omega arith)

code_half : (b : Bool) (u : ℕ) → eqb (u % 2) 1 ≡ b → code_of (signed_of b (u / 2)) ≡ u
code_half true u e = omega (arith, eqb-true (u % 2) 1 e)
code_half false u e = let n : u % 2 ≡ 1 → ⊥ = eqb-false (u % 2) 1 e in omega (arith, n)

pub code_number : (u : ℕ) → code_of (number_of u) ≡ u
code_number u = code_half (eqb (u % 2) 1) u refl

size_half : (b : Bool) (u : ℕ) → eqb (u % 2) 1 ≡ b → nat_abs (signed_of b (u / 2)) ≡ (u + 1) / 2
size_half true u e = omega (arith, eqb-true (u % 2) 1 e)
size_half false u e = let n : u % 2 ≡ 1 → ⊥ = eqb-false (u % 2) 1 e in omega (arith, n)

-- the magnitude of a number, from its code
pub code_size : (u : ℕ) → nat_abs (number_of u) ≡ (u + 1) / 2
code_size u = size_half (eqb (u % 2) 1) u refl

-- the two ends of `code_of`
pub code_neg : (n : ℤ) → true ≡ negative n → code_of n ≡ 2 * mag n + 1
code_neg (pos n) e = let z : ◌≡◌ {A = ℕ} 0 1 = cc in absurd (omega arith)
code_neg (negsuc n) e = refl

pub code_pos : (n : ℤ) → false ≡ negative n → code_of n ≡ 2 * mag n
code_pos (pos n) e = refl
code_pos (negsuc n) e = let z : ◌≡◌ {A = ℕ} 0 1 = cc in absurd (omega arith)
