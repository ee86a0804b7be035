-- What a pass over cells gathers: the union of the cells and of their sums with k. The unions tell at once whether every cell is within its
-- limit, each lane by the free bit above it.
use Rattle.std.specs.Prelude.{ℕ, zero, suc, ◌+◌, ◌-◌, ◌*◌, ◌/◌, ◌%◌, ◌^◌, ◌<◌, ◌≤◌, List, bit_or, slice_index}
use Rattle.layout.specs.View.{counters_at, stride}

-- of n cells, from cell `at` on
unfoldable pub gathered : List ℕ → ℕ → ℕ → ℕ → ℕ
gathered c at k zero = 0
gathered c at k (suc n) = bit_or (bit_or (gathered c at k n) (slice_index c (at + n))) ((slice_index c (at + n) + k) % 2 ^ 64)

-- the free bit above a whole cell, a lane of 21 bits, one of 32
abbrev pub cell_top : ℕ
cell_top = 9223372036854775808

abbrev pub lane_top : ℕ
lane_top = 1048576

abbrev pub half_top : ℕ
half_top = 2147483648

-- how far a limit is below that bit: the sum with it keeps the bit clear for what is within the limit alone
abbrev pub room : ℕ → ℕ → ℕ
room top limit = top - 1 - limit

-- the same of two lanes of 32 bits, and of lanes of 21, 21 and 22
unfoldable pub halves_room : (low high : ℕ) → ℕ
halves_room low high = room half_top low + room half_top high * 4294967296

unfoldable pub lanes_room : (first second third : ℕ) → ℕ
lanes_room first second third = room lane_top first + room lane_top second * 2097152 + room lane_top third * 4398046511104

-- the lanes of a union keep their free bits clear
pub record Halves (u : ℕ) : Type 0 where
  pub low : u % 4294967296 < half_top
  pub high : u / 4294967296 < half_top

pub record Lanes (u : ℕ) : Type 0 where
  pub first : u % 2097152 < lane_top
  pub second : u / 2097152 % 2097152 < lane_top
  pub third : u / 4398046511104 < lane_top

-- n cells, from cell `at` on, are at most a limit
pub record RunWithin (c : List ℕ) (at n limit : ℕ) : Type 0 where
  pub cell : (i : ℕ) → i < n → slice_index c (at + i) ≤ limit

-- the counters of topic t, by its caps
unfoldable pub counters_gathered : List ℕ → (n : ℕ) → (caps2 caps3 : List ℕ) → (p4 t : ℕ) → ℕ
counters_gathered c n caps2 caps3 p4 t = gathered c (counters_at + t * stride) (lanes_room (slice_index caps2 t) (slice_index caps3 t) p4) n
