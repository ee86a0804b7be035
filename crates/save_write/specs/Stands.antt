-- What the writer leaves: bytes that stand in a buffer from a place on, and the numbers of the records by their keys.
use Rattle.std.specs.Prelude.{ℕ, ◌+◌, ◌≡◌, List, length}
use Rattle.std.proofs.lemmas.List.Edits.{sets}
use Rattle.records.specs.Records.{State}
use Rattle.rows.specs.Rows.{joins}
use Rattle.saves.specs.Save.{saved_row}
use Rattle.save_write.specs.Keys.{slot_of}

abbrev pub rows_of : State → ℕ → List ℕ → List ℕ
rows_of st time keys = joins (λ key. saved_row st time (slot_of key)) keys

pub record Stands (bytes : List ℕ) (from : ℕ) (buf : List ℕ) (place : ℕ) (out : List ℕ) : Type 0 where
  pub end : place ≡ from + length bytes
  pub left : out ≡ sets buf from bytes
