-- Worked examples of the table (02, order 6): the ids "b" and "aa" (the shorter first), with the numbers 9 and 0.
use Rattle.std.specs.Prelude.{Some, None}
use Rattle.std.specs.Prelude.{ℕ, ◌≡◌, true, false, List, [], ◌∷◌, ◌++◌, replicate}
use Rattle.message_ids.specs.Ids.{row_of, number_row, table_ok}

abbrev pub some_ids : List ℕ
some_ids = (1 ∷ 0x62 ∷ []) ++ replicate 63 0 ++ (2 ∷ 0x61 ∷ 0x61 ∷ []) ++ replicate 62 0

abbrev pub some_numbers : List ℕ
some_numbers = 9 ∷ 0 ∷ []

-- the rows by rising number
abbrev pub some_order : List ℕ
some_order = 1 ∷ 0 ∷ []

pub record Examples : Type 0 where
  pub accepted : table_ok some_ids some_numbers some_order ≡ true
  pub empty : table_ok [] [] [] ≡ true
  -- ---- "no id or number twice", "ids of 1 to 64 bytes", and the order that is asked for
  pub number_twice : table_ok some_ids (9 ∷ 9 ∷ []) some_order ≡ false
  pub row_twice : table_ok some_ids some_numbers (1 ∷ 1 ∷ []) ≡ false
  pub id_twice : table_ok (replicate 130 1) some_numbers some_order ≡ false
  pub longer_first : table_ok ((2 ∷ 0x61 ∷ 0x61 ∷ []) ++ replicate 62 0 ++ (1 ∷ 0x62 ∷ []) ++ replicate 63 0) some_numbers some_order ≡ false
  pub larger_first : table_ok some_ids some_numbers (0 ∷ 1 ∷ []) ≡ false
  pub no_bytes : table_ok (replicate 65 0) (0 ∷ []) (0 ∷ []) ≡ false
  pub bytes_65 : table_ok (65 ∷ replicate 64 1) (0 ∷ []) (0 ∷ []) ≡ false
  pub row_cut : table_ok (replicate 64 1) (0 ∷ []) (0 ∷ []) ≡ false
  -- ---- rows of ids and numbers; a part of an id, and an id with more bytes, are others
  pub second : row_of some_ids 2 (0x61 ∷ 0x61 ∷ []) 0 2 ≡ Some 1
  pub prefix : row_of some_ids 2 (0x61 ∷ 0x61 ∷ []) 0 1 ≡ None
  pub longer : row_of some_ids 2 (0x61 ∷ 0x61 ∷ 0x00 ∷ []) 0 3 ≡ None
  pub none : row_of some_ids 2 (0x61 ∷ 0x61 ∷ []) 0 0 ≡ None
  pub nine : number_row some_numbers 9 ≡ Some 0
  pub one : number_row some_numbers 1 ≡ None
