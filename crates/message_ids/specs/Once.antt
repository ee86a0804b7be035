-- "no id or number twice": what the table's test by neighbours gives.
use Rattle.std.specs.Prelude.{ℕ, ◌<◌, ◌≡◌, true, List, length, get_or}
use Rattle.message_ids.specs.Ids.{id_size, id_start, is_id, ids_ok, numbers_ok}

abbrev pub NoIdTwice : Type 0
NoIdTwice =
    (ids : List ℕ) (rows j k : ℕ) →
    ids_ok ids rows ≡ true →
    j < rows →
    k < rows →
    is_id ids j ids (id_start k) (id_size ids k) ≡ true →
    j ≡ k

abbrev pub NoNumberTwice : Type 0
NoNumberTwice =
    (numbers order : List ℕ) (j k : ℕ) →
    numbers_ok numbers order ≡ true →
    j < length numbers →
    k < length numbers →
    get_or numbers j 0 ≡ get_or numbers k 0 →
    j ≡ k
