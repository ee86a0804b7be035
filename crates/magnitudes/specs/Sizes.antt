-- The least and the greatest magnitude of each field of the parameters: those of its limits (crate limits), the sign left out.
use Rattle.std.specs.Prelude.{ℕ, ◌*◌, ◌≤◌, ◌<◌, List, [], ◌∷◌, get_or}
use Rattle.varint.specs.Codes.{magnitude}

-- 19 general fields, then the 16 that every topic has
unfoldable pub least : List ℕ
least =
    1 ∷ 1 ∷ 1 ∷ 0 ∷ 0 ∷ 1 ∷ 1 ∷ 0 ∷ 0 ∷ 1 ∷ 1 ∷ 1 ∷ 0 ∷ 1 ∷ 1 ∷ 1 ∷ 1 ∷ 1 ∷ 0
    ∷ 0 ∷ 0 ∷ 1 ∷ 0 ∷ 0 ∷ 1 ∷ 0 ∷ 0 ∷ 1 ∷ 1 ∷ 1 ∷ 0 ∷ 0 ∷ 1 ∷ 0 ∷ 1
    ∷ []

unfoldable pub most : List ℕ
most =
    48 ∷ 48 ∷ 48 ∷ 24 ∷ 48 ∷ 3600 ∷ 3600 ∷ 86400 ∷ 1000000 ∷ 1000000000 ∷ 1000000000 ∷ 1000000000 ∷ 1000000000
    ∷ 100 ∷ 100 ∷ 256 ∷ 100 ∷ 999 ∷ 1000
    ∷ 1000 ∷ 100 ∷ 3600000 ∷ 1000 ∷ 100 ∷ 999 ∷ 1000000 ∷ 100 ∷ 999 ∷ 1000000 ∷ 1000000 ∷ 3600000 ∷ 100 ∷ 999 ∷ 100 ∷ 999
    ∷ []

-- ---- the joint rules, by magnitudes
abbrev pub size_in : List ℕ → ℕ → ℕ
size_in codes i = magnitude (get_or codes i 0)

pub record Degrees (codes : List ℕ) : Type 0 where
  pub lo : size_in codes 0 ≤ size_in codes 1
  pub hi : size_in codes 1 ≤ size_in codes 2
  pub out : size_in codes 3 < size_in codes 0
  pub twice : 2 * size_in codes 3 ≤ size_in codes 1

pub record Thresholds (codes : List ℕ) : Type 0 where
  pub publish : size_in codes 10 ≤ size_in codes 11
  pub graylist : size_in codes 11 < size_in codes 9
