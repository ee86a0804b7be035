-- Which slot a call means: searches over the slots from 0 on.
use Rattle.std.specs.Prelude.{Option}
use Rattle.std.specs.Prelude.{ℕ, Bool, ◌&&◌, eqb}
use Rattle.index.specs.Index.{first}
use Rattle.records.specs.Records.{State, slot_count, peer_in, is_empty}

-- the record in slot s has this status and holds the id
unfoldable pub holds : State → (status id s : ℕ) → Bool
holds st status id s = eqb (peer_in st s).status status && eqb (peer_in st s).id id

-- 3: "no connected record holds the id"
unfoldable pub find_connected : State → ℕ → Option ℕ
find_connected st id = first slot_count (holds st 1 id)

-- "A retained id resumes its record"
unfoldable pub find_retained : State → ℕ → Option ℕ
find_retained st id = first slot_count (holds st 2 id)

-- "another takes the lowest empty slot"
unfoldable pub lowest_empty : State → Option ℕ
lowest_empty st = first slot_count (λ s. is_empty (peer_in st s))
