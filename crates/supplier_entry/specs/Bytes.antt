-- Numbers as bytes, "low first".
use Rattle.std.specs.Prelude.{ℕ, zero, suc, ◌+◌, ◌*◌, ◌/◌, ◌%◌, List, [], ◌∷◌}

-- the number that bytes make
unfoldable pub low_first : List ℕ → ℕ
low_first [] = 0
low_first (b ∷ s) = b + 256 * low_first s

-- the k low bytes of a number
unfoldable pub low_bytes : ℕ → ℕ → List ℕ
low_bytes zero n = []
low_bytes (suc k) n = (n % 256) ∷ low_bytes k (n / 256)
