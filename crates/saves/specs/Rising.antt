-- Slots whose ids ascend.
use Rattle.std.specs.Prelude.{ℕ, ◌<◌, List, [], ◌∷◌}
use Rattle.records.specs.Records.{State, peer_in}

abbrev pub id_at : State → ℕ → ℕ
id_at st k = (peer_in st k).id

-- each id is above the one before it, the first above a
abbrev pub Rises : State → ℕ → List ℕ → Type 0
Rises st a [] = Unit
Rises st a (k ∷ l) = (a < id_at st k) × Rises st (id_at st k) l
