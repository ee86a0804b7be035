-- What the third pass of a load does: each record's numbers are stored in its slot. Their ranges are known by then, here as plain numbers.
use Rattle.std.specs.Prelude.{ℕ, ◌*◌, ◌%◌, ◌<◌, ◌≤◌, ◌≡◌, List, [], ◌∷◌, length, get_or}
use Rattle.index.specs.Index.{iter, gather}
use Rattle.records.specs.Records.{State, topic_count, place, set_peer, set_topic}
use Rattle.validity.specs.Valid.{max_id}
use Rattle.saves.specs.Save.{row_size}
use Rattle.saves.specs.Load.{most_retain, most_backoff, numbers, parse_from, loaded_peer, loaded_topic, row_at}

-- the most of each number of a record under any parameters
unfoldable pub widest : List ℕ
widest =
    max_id
    ∷ most_retain
    ∷ 2000000000
    ∷ 1000000
    ∷ gather topic_count (λ t. 1000000 ∷ 1000000 ∷ 1000000000000 ∷ 1000000 ∷ most_backoff ∷ [])

pub record RowFits (row : List ℕ) : Type 0 where
  pub long : length row ≡ row_size
  pub most : (j : ℕ) → j < row_size → get_or row j 0 ≤ get_or widest j 0

-- one record in its slot
unfoldable pub stored_topic : List ℕ → ℕ → ℕ → State → State
stored_topic row s t st = set_topic st (place s t) (loaded_topic row t)

unfoldable pub stored : ℕ → List ℕ → ℕ → State → State
stored clock row s st = set_peer (iter topic_count (stored_topic row s) st) s (loaded_peer clock row)

-- n records stand in the bytes from a place on, and are in these ranges
pub record Loadable (s : List ℕ) (at n : ℕ) : Type 0 where
  pub l : List ℕ
  pub end : ℕ
  pub whole : parse_from (n * row_size) s at ≡ numbers l end
  pub fits : (i : ℕ) → i < n * row_size → get_or l i 0 ≤ get_or widest (i % row_size) 0

-- all of them in the slots from 0 on
abbrev pub stored_all : ℕ → ℕ → List ℕ → State → State
stored_all clock n l st = iter n (λ k. stored clock (row_at l k) k) st
