-- Signed numbers as unsigned ones (01, "In bytes"): "each n becomes 2n, or -2n-1 when negative".
use Rattle.std.specs.Prelude.{ℕ, ◌+◌, ◌*◌, ◌/◌, ◌%◌, Bool, true, false, eqb, ℤ, pos, negsuc}

abbrev pub negative : ℤ → Bool
negative (pos n) = false
negative (negsuc n) = true

-- a number by its sign and half its code; negsuc m is -1 - m
abbrev pub signed_of : Bool → ℕ → ℤ
signed_of false m = pos m
signed_of true m = negsuc m

-- -2n-1 of n = -1 - m is 2m + 1
abbrev pub code_of : ℤ → ℕ
code_of (pos n) = 2 * n
code_of (negsuc m) = 2 * m + 1

abbrev pub number_of : ℕ → ℤ
number_of u = signed_of (eqb (u % 2) 1) (u / 2)

-- the magnitude of the number that a code stands for
abbrev pub magnitude : ℕ → ℕ
magnitude code = (code + 1) / 2
