-- What a run of cells is after part of it is moved up, and where a number belongs in a rising run. Nothing here knows the notes.
use Rattle.std.specs.Prelude.{ℕ, ◌+◌, ◌≤◌, ◌<◌, ◌≡◌, List, length, get_or}

-- the cells from `at` to `end` stand w higher; those from `at` to `at + w` are as they were
pub record MovedUp (c d : List ℕ) (at end w : ℕ) : Type 0 where
  pub size : length d ≡ length c
  pub below : (k : ℕ) → k < at + w → get_or d k 0 ≡ get_or c k 0
  pub moved : (k : ℕ) → at ≤ k → k < end → get_or d (k + w) 0 ≡ get_or c k 0
  pub above : (k : ℕ) → end + w ≤ k → get_or d k 0 ≡ get_or c k 0

-- of the n cells from `at` on, those before the p-th are at most x, and the p-th is above it
pub record Placed (c : List ℕ) (at n x p : ℕ) : Type 0 where
  pub within : p ≤ n
  pub before : (k : ℕ) → k < p → get_or c (at + k) 0 ≤ x
  pub after : p < n → x < get_or c (at + p) 0
