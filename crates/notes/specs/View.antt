-- How a run of numbers holds the notes of all slots: a column of one cell a slot with its counts and the length of its set, then a row of
-- 33 cells a slot: 32 numbers, and their ages as the digits of one number. Only the numbers and ages below the length are read, so a column
-- of zeros holds nothing. The layout may be changed here and in src/lib.rt.
use Rattle.std.specs.Prelude.{ℕ, ◌+◌, ◌*◌, ◌/◌, ◌%◌, ◌^◌, Bool, cond, not, ◌&&◌, ◌||◌, List, eqb, leb, get_or}
use Rattle.records.specs.Records.{slot_count}
use Rattle.layout.specs.Rows.{tab}
use Rattle.layout.specs.View.{table}
use Rattle.gossip.specs.Notes.{Entry, Note, no_note}

-- the cells of a row, and of all
abbrev pub row_cells : ℕ
row_cells = 33

abbrev pub notes_cells : ℕ
notes_cells = 8704

-- where the row of a slot begins
abbrev pub row_at : ℕ → ℕ
row_at s = slot_count + 33 * s

-- the cell of a slot in the column
abbrev pub head_of : List ℕ → ℕ → ℕ
head_of c s = get_or c s 0

-- the k-th digit to the base 4
unfoldable pub digit : ℕ → ℕ → ℕ
digit x k = x / 4 ^ k % 4

-- an entry of a row, with the ages that a number holds
unfoldable pub entry_of : List ℕ → ℕ → ℕ → ℕ → Entry
entry_of c at ages k = record { number = get_or c (at + k) 0; age = digit ages k }

unfoldable pub entry_at : List ℕ → ℕ → ℕ → Entry
entry_at c at k = entry_of c at (get_or c (at + 32) 0) k

-- the length of a set: one above the most stands for all that are too many
unfoldable pub few : ℕ → ℕ
few n = cond (leb n 32) n 33

-- a set of n in the row that begins at a cell
unfoldable pub set_in : List ℕ → ℕ → ℕ → List Entry
set_in c at n = tab n (entry_at c at)

-- its numbers alone
unfoldable pub numbers_in : List ℕ → ℕ → ℕ → List ℕ
numbers_in c at n = tab n (λ k. get_or c (at + k) 0)

-- what a cell of the column and a row are
unfoldable pub note_from : ℕ → List Entry → Note
note_from head held = record { held = held; puts = head % 64; ihaves = head / 64 % 64 }

unfoldable pub note_of : List ℕ → ℕ → Note
note_of c s = note_from (head_of c s) (set_in c (row_at s) (few (head_of c s / 4096)))

-- the notes by slot
unfoldable pub notes_of : List ℕ → List Note
notes_of c = table slot_count (note_of c)

unfoldable pub note_at : List ℕ → ℕ → Note
note_at c s = get_or (notes_of c) s no_note

-- `counts_ok` of a set-up with these two numbers
abbrev pub counts_fit : ℕ → ℕ → Bool → Note → Bool
counts_fit limit most empty n =
    leb n.puts limit && leb n.ihaves most && (not empty || (eqb n.puts 0 && eqb n.ihaves 0))
