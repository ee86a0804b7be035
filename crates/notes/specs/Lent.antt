-- What a function on the cells of the notes relies on: their number, a slot, and what test 12 says of a slot's note.
use Rattle.std.specs.Prelude.{ℕ, ◌+◌, ◌≤◌, ◌<◌, ◌≡◌, List, length, get_or}
use Rattle.records.specs.Records.{slot_count}
use Rattle.gossip.specs.Notes.{set_most, put_in, aged}
use Rattle.notes.specs.View.{notes_cells, row_cells, set_in, note_at}

pub record AtSlot (cells : List ℕ) (s : ℕ) : Type 0 where
  pub size : length cells ≡ notes_cells
  pub slot : s < slot_count

-- a set that is not too long
pub record SetFits (cells : List ℕ) (s : ℕ) : Type 0 where
  pub size : length cells ≡ notes_cells
  pub slot : s < slot_count
  pub held : length (note_at cells s).held ≤ set_most

-- a set with room, and a count that can rise
pub record PutFits (cells : List ℕ) (s : ℕ) : Type 0 where
  pub size : length cells ≡ notes_cells
  pub slot : s < slot_count
  pub held : length (note_at cells s).held < set_most
  pub puts : (note_at cells s).puts < 63

pub record IhaveFits (cells : List ℕ) (s : ℕ) : Type 0 where
  pub size : length cells ≡ notes_cells
  pub slot : s < slot_count
  pub ihaves : (note_at cells s).ihaves < 63

-- no set is too long
pub record AllFit (cells : List ℕ) : Type 0 where
  pub size : length cells ≡ notes_cells
  pub held : (s : ℕ) → s < slot_count → length (note_at cells s).held ≤ set_most

-- a row of n entries, whole within the cells
pub record RowFits (cells : List ℕ) (at n : ℕ) : Type 0 where
  pub row : at + row_cells ≤ length cells
  pub held : n ≤ set_most

-- a row after a heartbeat: what is left of its n entries, and no cell outside it changed
pub record AgedRow (c d : List ℕ) (at n m : ℕ) : Type 0 where
  pub size : length d ≡ length c
  pub few : m ≤ n
  pub held : set_in d at m ≡ aged (set_in c at n)
  pub below : (k : ℕ) → k < at → get_or d k 0 ≡ get_or c k 0
  pub above : (k : ℕ) → at + row_cells ≤ k → get_or d k 0 ≡ get_or c k 0

-- a row with one number more
pub record PutRow (c d : List ℕ) (at n x : ℕ) : Type 0 where
  pub size : length d ≡ length c
  pub held : set_in d at (n + 1) ≡ put_in x (set_in c at n)
  pub below : (k : ℕ) → k < at → get_or d k 0 ≡ get_or c k 0
  pub above : (k : ℕ) → at + row_cells ≤ k → get_or d k 0 ≡ get_or c k 0
