-- What the functions ask of the cells that they are lent, and what the test of the rows says.
use Rattle.std.specs.Prelude.{ℕ, ◌+◌, ◌*◌, ◌-◌, ◌≤◌, ◌<◌, ◌≡◌, ◌≢◌, Bool, true, false, cond, ◌&&◌, ◌||◌, List, [], ◌++◌, map, eqb, leb, ltb, length, get_or}
use Rattle.index.specs.Index.{every}
use Rattle.records.specs.Records.{slot_count}
use Rattle.layout.specs.Rows.{tab}
use Rattle.words.specs.Words.{bits_of}
use Rattle.gossip.specs.Notes.{Row, rows_most, count_in, replied, also}
use Rattle.gossip.specs.Valid.{all, rises, row_number}
use Rattle.replies.specs.View.{lane_count, lane_end, lane_cells, replies_cells, rows_in, start_of, lane_in, row_at, replies_of, blank}
use Rattle.replies.specs.View.{inserted}

-- the region, with no more rows than it has room for
pub record Rows (c : List ℕ) : Type 0 where
  pub size : length c ≡ replies_cells
  pub few : length (replies_of c) ≤ rows_most

pub record RowOf (c : List ℕ) (r : ℕ) : Type 0 where
  pub size : length c ≡ replies_cells
  pub few : length (replies_of c) ≤ rows_most
  pub here : r < length (replies_of c)

pub record SlotOf (c : List ℕ) (s : ℕ) : Type 0 where
  pub size : length c ≡ replies_cells
  pub few : length (replies_of c) ≤ rows_most
  pub slot : s < slot_count

-- the rows rise, as test 12 gives
pub record Ordered (c : List ℕ) (s : ℕ) : Type 0 where
  pub size : length c ≡ replies_cells
  pub few : length (replies_of c) ≤ rows_most
  pub rise : rises (map row_number (replies_of c)) ≡ true
  pub slot : s < slot_count

-- room for one more reply: for its count in a lane, and for its row
pub record Room (c : List ℕ) (n s : ℕ) : Type 0 where
  pub size : length c ≡ replies_cells
  pub few : length (replies_of c) ≤ rows_most
  pub rise : rises (map row_number (replies_of c)) ≡ true
  pub slot : s < slot_count
  pub small : count_in (replies_of c) n s < 63
  pub room : leb (length (replied n s (replies_of c))) rows_most ≡ true

-- a flag for each row
pub record Flagged (c : List ℕ) (flags : List Bool) : Type 0 where
  pub size : length c ≡ replies_cells
  pub few : length (replies_of c) ≤ rows_most
  pub enough : length (replies_of c) ≤ length flags

-- the flags say of each row what f says of its number
abbrev pub FlagsSay : (ℕ → Bool) → List Bool → List Row → Type 0
FlagsSay f flags l = (r : ℕ) → r < length l → get_or flags r false ≡ f (get_or (map row_number l) r 0)

-- what the helpers ask: a place for a row, and a slot
pub record InRow (c : List ℕ) (r s : ℕ) : Type 0 where
  pub size : length c ≡ replies_cells
  pub row : r < rows_most
  pub slot : s < slot_count

pub record OneMore (c : List ℕ) (r s : ℕ) : Type 0 where
  pub size : length c ≡ replies_cells
  pub row : r < rows_most
  pub slot : s < slot_count
  pub small : get_or (row_at c r).counts s 0 < 63

pub record Copies (c : List ℕ) (from to : ℕ) : Type 0 where
  pub size : length c ≡ replies_cells
  pub first : from < rows_most
  pub second : to < rows_most
  pub apart : from ≢ to

pub record Opens (c : List ℕ) (p u : ℕ) : Type 0 where
  pub size : length c ≡ replies_cells
  pub place : p ≤ u
  pub room : u < rows_most

pub record Inserts (c : List ℕ) (p : ℕ) : Type 0 where
  pub size : length c ≡ replies_cells
  pub place : p ≤ rows_in c
  pub room : rows_in c < rows_most

pub record Inserted (c d : List ℕ) (p n : ℕ) : Type 0 where
  pub size : length d ≡ length c
  pub rows : replies_of d ≡ inserted p (blank n) (replies_of c)

-- a row that is moved down to place `to`, or passed over
pub record Passes (c : List ℕ) (from to : ℕ) : Type 0 where
  pub size : length c ≡ replies_cells
  pub row : from < rows_most
  pub low : to ≤ from

pub record Passed (c d : List ℕ) (kept : Bool) (from to next : ℕ) : Type 0 where
  pub size : length d ≡ length c
  pub rows : rows_in d ≡ rows_in c
  pub low : next ≤ from + 1
  pub below : tab next (row_at d) ≡ tab to (row_at c) ++ also kept (row_at c from) []
  pub above : (k : ℕ) → from < k → row_at d k ≡ row_at c k

-- the first row whose number is n or more
pub record Searched (c : List ℕ) : Type 0 where
  pub size : length c ≡ replies_cells
  pub few : length (replies_of c) ≤ rows_most
  pub rise : rises (map row_number (replies_of c)) ≡ true

pub record Placed (l : List Row) (n p : ℕ) : Type 0 where
  pub low : p ≤ length l
  pub less : (k : ℕ) → k < p → get_or (map row_number l) k 0 < n
  pub more : (k : ℕ) → p ≤ k → k < length l → n ≤ get_or (map row_number l) k 0

-- row p is there, and is that of n
unfoldable pub is_row : List Row → ℕ → ℕ → Bool
is_row l p n = cond (ltb p (length l)) (eqb (get_or (map row_number l) p 0) n) false

-- ---- the test

abbrev pub on_bits : List ℕ → ℕ → Bool
on_bits m s = get_or (bits_of m) s false

-- no count above the bound, and none of a slot that is not on
unfoldable pub row_fits : (ℕ → Bool) → ℕ → Row → Bool
row_fits on most r =
    eqb (length r.counts) slot_count && every slot_count (λ s. leb (get_or r.counts s 0) (cond (on s) most 0))

unfoldable pub rows_ok : (ℕ → Bool) → ℕ → List Row → Bool
rows_ok on most l = leb (length l) rows_most && rises (map row_number l) && all (row_fits on most) l

-- how the test goes: lane by lane, cell by cell, row by row. Lanes past the last slot are not looked at.
abbrev pub lane_fits : (ℕ → Bool) → ℕ → ℕ → ℕ → Bool
lane_fits on most s v = leb slot_count s || leb v (cond (on s) most 0)

unfoldable pub cell_fits : (ℕ → Bool) → ℕ → ℕ → ℕ → Bool
cell_fits on most k x = every lane_count (λ j. lane_fits on most (lane_count * k + j) (lane_in x j))

unfoldable pub lanes_fit : (ℕ → Bool) → ℕ → List ℕ → ℕ → Bool
lanes_fit on most c r = every lane_cells (λ k. cell_fits on most k (get_or c (start_of r + (2 + k)) 0))

-- the number of row r is above that of the row before it
abbrev pub step_at : List ℕ → ℕ → Bool
step_at c r = eqb r 0 || ltb (get_or c (start_of (r - 1)) 0) (get_or c (start_of r) 0)

-- the limit of a slot's count, as a lane holds it
pub record Limit (on : ℕ → Bool) (most s limit : ℕ) : Type 0 where
  pub small : limit < lane_end
  pub allows : (v : ℕ) → v ≤ limit → lane_fits on most s v ≡ true

-- a cell of limits, lane by lane: no count above its lane's limit fails the test
abbrev pub Allows : (ℕ → Bool) → ℕ → ℕ → ℕ → Type 0
Allows on most k limits = (j : ℕ) → j < lane_count → (v : ℕ) → v ≤ lane_in limits j → lane_fits on most (lane_count * k + j) v ≡ true

-- the same of every cell of a row
abbrev pub AllAllow : (ℕ → Bool) → ℕ → List ℕ → Type 0
AllAllow on most l = (k : ℕ) → k < lane_cells → Allows on most k (get_or l k 0)

-- no lane of x is above that of l
abbrev pub Under : ℕ → ℕ → Type 0
Under x l = (j : ℕ) → j < lane_count → lane_in x j ≤ lane_in l j

-- the same of every second lane
abbrev pub EvenUnder : ℕ → ℕ → Type 0
EvenUnder x l = (i : ℕ) → i < 5 → lane_in x (2 * i) ≤ lane_in l (2 * i)

-- what the tests of a row and of all rows ask
pub record RowLimits (on : ℕ → Bool) (most : ℕ) (c l : List ℕ) (r : ℕ) : Type 0 where
  pub size : length c ≡ replies_cells
  pub row : r < rows_most
  pub limits : AllAllow on most l

pub record RowsLimits (on : ℕ → Bool) (most : ℕ) (c l : List ℕ) : Type 0 where
  pub size : length c ≡ replies_cells
  pub few : length (replies_of c) ≤ rows_most
  pub limits : AllAllow on most l
