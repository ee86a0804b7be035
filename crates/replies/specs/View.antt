-- How a region of cells holds how often IWANTs were answered: the number of rows in use, then the rows, each a number, a hint that is no
-- part of the view, and the counts of all slots, ten lanes of six bits in a cell. No view reads a row past those in use.
use Rattle.std.specs.Prelude.{ℕ, zero, suc, ◌+◌, ◌*◌, ◌/◌, ◌%◌, ◌^◌, ◌≤◌, ◌<◌, ◌≡◌, ◌≢◌, List, [], ◌∷◌, length, get_or, replicate}
use Rattle.records.specs.Records.{slot_count}
use Rattle.layout.specs.Rows.{tab}
use Rattle.layout.specs.View.{table}
use Rattle.gossip.specs.Notes.{Row}

-- ---- the sizes

abbrev pub lane_count : ℕ
lane_count = 10

abbrev pub lane_bits : ℕ
lane_bits = 6

-- what a lane holds is below it
abbrev pub lane_end : ℕ
lane_end = 64

-- cells of lanes in a row, after its number and its hint
abbrev pub lane_cells : ℕ
lane_cells = 26

abbrev pub row_cells : ℕ
row_cells = 28

-- 2,560 rows after the first cell
abbrev pub replies_cells : ℕ
replies_cells = 71681

-- ---- what the cells hold

abbrev pub rows_in : List ℕ → ℕ
rows_in c = get_or c 0 0

-- where row r starts
abbrev pub start_of : ℕ → ℕ
start_of r = 1 + r * row_cells

-- lane j of a cell
unfoldable pub lane_in : ℕ → ℕ → ℕ
lane_in x j = x / 2 ^ (lane_bits * j) % lane_end

-- the count of slot s in the row that starts at cell b
unfoldable pub lane_at : List ℕ → ℕ → ℕ → ℕ
lane_at c b s = lane_in (get_or c (b + (2 + s / lane_count)) 0) (s % lane_count)

-- the row that starts at cell b
unfoldable pub row_from : List ℕ → ℕ → Row
row_from c b = record { number = get_or c b 0; counts = table slot_count (lane_at c b) }

unfoldable pub row_at : List ℕ → ℕ → Row
row_at c r = row_from c (start_of r)

unfoldable pub replies_of : List ℕ → List Row
replies_of c = tab (rows_in c) (row_at c)

-- ---- what a step leaves

-- lane j is v, and no other changed
pub record LaneSet (x y j v : ℕ) : Type 0 where
  pub here : lane_in y j ≡ v
  pub others : (i : ℕ) → i ≢ j → lane_in y i ≡ lane_in x i

-- row r is `row`, and no other changed
pub record RowSet (c d : List ℕ) (r : ℕ) (row : Row) : Type 0 where
  pub size : length d ≡ length c
  pub rows : rows_in d ≡ rows_in c
  pub here : row_at d r ≡ row
  pub others : (k : ℕ) → k ≢ r → row_at d k ≡ row_at c k

-- the rows from p on are one place higher, and place p is free
pub record Opened (c d : List ℕ) (p u : ℕ) : Type 0 where
  pub size : length d ≡ length c
  pub rows : rows_in d ≡ rows_in c
  pub low : (k : ℕ) → k < p → row_at d k ≡ row_at c k
  pub high : (k : ℕ) → p ≤ k → k < u → row_at d (k + 1) ≡ row_at c k

-- a row with no count
abbrev pub blank : ℕ → Row
blank n = record { number = n; counts = replicate slot_count 0 }

-- a row more, at place p
unfoldable pub inserted : ℕ → Row → List Row → List Row
inserted zero x l = x ∷ l
inserted (suc p) x [] = x ∷ []
inserted (suc p) x (y ∷ l) = y ∷ inserted p x l
