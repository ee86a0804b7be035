-- The messages' ids and their numbers (02, order 6): "Message ids become numbers by a table that the host lends, ids of 1 to 64 bytes, no
-- id or number twice (else 2, after 8)". The table is lent sorted, so that it is tested by neighbours and searched by halves: row k has an
-- id and a number; the ids rise from row to row, and a further list names the rows so that their numbers rise. A table in another order
-- is 2 too.
use Rattle.std.specs.Prelude.{Option}
use Rattle.std.specs.Prelude.{ℕ, zero, suc, ◌+◌, ◌-◌, ◌*◌, ◌%◌, ◌<◌, ◌≡◌, Bool, true, ◌&&◌, ◌||◌, List, eqb, leb, ltb, length, get_or}
use Rattle.index.specs.Index.{every, first}
use Rattle.std.specs.declared.cmp.Ordering.{Ordering}
use Rattle.std.specs.declared.cmp.Ordering.TheVariants.{Less, Equal, Greater}

-- ---- ids: rows of a length and 64 bytes, as the topics' names
abbrev pub id_bytes : ℕ
id_bytes = 64

abbrev pub row_bytes : ℕ
row_bytes = 65

abbrev pub id_size : List ℕ → ℕ → ℕ
id_size ids k = get_or ids (row_bytes * k) 0

abbrev pub id_start : ℕ → ℕ
id_start k = row_bytes * k + 1

-- the same bytes stand at two places
abbrev pub same_at : List ℕ → ℕ → List ℕ → ℕ → ℕ → Bool
same_at a i b j k = eqb (get_or a (i + k) 0) (get_or b (j + k) 0)

-- the id of row k stands in s, so many bytes long
unfoldable pub is_id : List ℕ → ℕ → List ℕ → ℕ → ℕ → Bool
is_id ids k s start size = eqb (id_size ids k) size && every size (same_at ids (id_start k) s start)

-- the row of an id, and the row of a number
unfoldable pub row_of : List ℕ → ℕ → List ℕ → ℕ → ℕ → Option ℕ
row_of ids rows s start size = first rows (λ k. is_id ids k s start size)

unfoldable pub number_row : List ℕ → ℕ → Option ℕ
number_row numbers v = first (length numbers) (λ k. eqb (get_or numbers k 0) v)

-- ---- the order of ids: the shorter first; of one length by the first byte that differs. The length and the bytes, first to last, are read
-- as the digits of one number.
unfoldable pub digits : List ℕ → ℕ → ℕ → ℕ → ℕ
digits s start zero top = top
digits s start (suc n) top = digits s start n top * 256 + get_or s (start + n) 0 % 256

abbrev pub code_of : List ℕ → ℕ → ℕ → ℕ
code_of s start size = digits s start size size

abbrev pub row_code : List ℕ → ℕ → ℕ
row_code ids k = code_of ids (id_start k) (id_size ids k)

-- ---- the table's test
-- "ids of 1 to 64 bytes", each after the one before it
unfoldable pub id_ok : List ℕ → ℕ → Bool
id_ok ids k = ltb 0 (id_size ids k) && (leb (id_size ids k) id_bytes && (eqb k 0 || ltb (row_code ids (k - 1)) (row_code ids k)))

unfoldable pub ids_ok : List ℕ → ℕ → Bool
ids_ok ids rows = eqb (length ids) (row_bytes * rows) && every rows (id_ok ids)

-- the k-th number by size, that of the row which `order` names
abbrev pub number_by : List ℕ → List ℕ → ℕ → ℕ
number_by numbers order k = get_or numbers (get_or order k 0) 0

unfoldable pub place_ok : List ℕ → List ℕ → ℕ → Bool
place_ok numbers order k =
    ltb (get_or order k 0) (length numbers) && (eqb k 0 || ltb (number_by numbers order (k - 1)) (number_by numbers order k))

unfoldable pub numbers_ok : List ℕ → List ℕ → Bool
numbers_ok numbers order = eqb (length order) (length numbers) && every (length numbers) (place_ok numbers order)

unfoldable pub table_ok : List ℕ → List ℕ → List ℕ → Bool
table_ok ids numbers order = ids_ok ids (length numbers) && numbers_ok numbers order

-- ---- what `compare` promises of two ids
pub record Compared (a : List ℕ) (i n : ℕ) (b : List ℕ) (j m : ℕ) (r : Ordering) : Type 0 where
  pub before : r ≡ Less → code_of a i n < code_of b j m
  pub after : r ≡ Greater → code_of b j m < code_of a i n
  pub same : r ≡ Equal → (n ≡ m) × (every m (same_at a i b j) ≡ true)
