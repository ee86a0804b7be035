-- Where a number ends, for the reader: every byte before place r has its top bit set.
use Rattle.std.specs.Prelude.{ℕ, ◌≤◌, ◌<◌, List, length, get_or}

pub record Reaches (s : List ℕ) (at r : ℕ) : Type 0 where
  pub low : at ≤ r
  pub high : r < length s
  pub before : (j : ℕ) → at ≤ j → j < r → 128 ≤ get_or s j 0
