-- Factors as 64-bit floats (02, order 12): "A factor is accepted exactly if some whole n within that field's limits, made a float and
-- divided once by 1000, is the given float bit for bit; the answer is the first such n."
use Rattle.std.specs.Prelude.{Option}
use Rattle.std.specs.Prelude.{ℕ, suc, Bool, ◌&&◌, leb, eqb, pos, nat_abs, Float}
use Rattle.std.specs.Float.{binary64}
use Rattle.std.specs.Float.Ieee.{div, of_int, of_bits, to_bits}
use Rattle.index.specs.Index.{first}
use Rattle.limits.specs.declared.Limit.{Limit}
use Rattle.limits.specs.Limits.{lies}

-- the float 1000, by its bits
unfoldable pub thousand : Float
thousand = of_bits binary64 0x408f_4000_0000_0000

-- n "made a float and divided once by 1000", and its bits
unfoldable pub factor_of : ℕ → Float
factor_of n = div binary64 (of_int binary64 (pos n)) thousand

unfoldable pub factor_bits : ℕ → ℕ
factor_bits n = to_bits binary64 (factor_of n)

-- n is "within that field's limits", and its factor has the bits u
unfoldable pub is_factor : Limit → ℕ → ℕ → Bool
is_factor l u n = lies (pos n) l && eqb (factor_bits n) u

-- "the first such n"; none is above the high limit
unfoldable pub thousandths_of : Limit → ℕ → Option ℕ
thousandths_of l u = first (suc (nat_abs l.high)) (is_factor l u)

-- the same test where the low limit is a natural number
unfoldable pub factor_from : ℕ → ℕ → ℕ → Bool
factor_from low u n = leb low n && eqb (factor_bits n) u
