-- What a step leaves of a run of cells.
use Rattle.std.specs.Prelude.{ℕ, ◌+◌, ◌≤◌, ◌<◌, ◌≡◌, List, length, get_or}

-- the n cells from b on are what f says, and no other changed
pub record Run (c d : List ℕ) (b n : ℕ) (f : ℕ → ℕ) : Type 0 where
  pub size : length d ≡ length c
  pub within : (k : ℕ) → k < n → get_or d (b + k) 0 ≡ f k
  pub before : (x : ℕ) → x < b → get_or d x 0 ≡ get_or c x 0
  pub after : (x : ℕ) → b + n ≤ x → get_or d x 0 ≡ get_or c x 0
