-- An RPC written from a list of entries (02, orders 4 and 6), three numbers each, as the reader lists them: kind, topic, value; of an
-- IDONTWANT entry 0 and the message's number. "fields in ascending order, one control field or none, shortest numbers, absent rather than
-- zero."
use Rattle.std.specs.Prelude.{Result, Ok, Err}
use Rattle.rpc_write.specs.declared.WriteError.{WriteError}
use Rattle.rpc_write.specs.declared.WriteError.TheVariants.{NotList, Short}
use Rattle.std.specs.Prelude.{Option, Some, None}
use Rattle.std.specs.Prelude.{ℕ, ◌+◌, ◌-◌, ◌*◌, ◌≤◌, ◌<◌, ◌≡◌, Bool, true, false, ◌&&◌, ◌||◌, cond, List, [], ◌∷◌, ◌++◌, eqb, leb, ltb, length, get_or}
use Rattle.std.proofs.lemmas.List.Edits.{sets}
use Rattle.std.specs.Borrow.{Bor, MutBor}
use denote.Triple.Both.{Both}
use Rattle.index.specs.Index.{every, gather}
use Rattle.varint.specs.Groups.{encode}
use Rattle.message_ids.specs.Ids.{id_size, id_start, number_row, table_ok}
use Rattle.rpc.specs.Messages.{subscription, graft, prune, idontwant}
use Rattle.rpc.specs.Reading.{topics, name_bytes, row_bytes, Known}

-- ---- numbers by name
-- "PRUNE [..] backoff [..] in seconds", of 01's form: 1..3600 in the parameters, 0 where there is none
abbrev pub most_seconds : ℕ
most_seconds = 3600

-- "at most 64 actions" and "at most 8 joins and leaves"
abbrev pub most_actions : ℕ
most_actions = 64

abbrev pub most_changes : ℕ
most_changes = 8

-- ---- fields
-- of wire type 0: "absent rather than zero"; `encode` is the shortest form
unfoldable pub value_field : ℕ → ℕ → List ℕ
value_field number v = cond (eqb v 0) [] (encode (8 * number) ++ encode v)

-- of wire type 2: a tag, the content's length, the content
unfoldable pub head_bytes : ℕ → ℕ → List ℕ
head_bytes number size = encode (8 * number + 2) ++ encode size

unfoldable pub part_field : ℕ → List ℕ → List ℕ
part_field number content = encode (8 * number + 2) ++ (encode (length content) ++ content)

-- ---- topics' names: eight rows of a length (0: no name) and 64 bytes
unfoldable pub name_size : List ℕ → ℕ → ℕ
name_size names topic =
    cond (ltb topic topics) (cond (leb (get_or names (row_bytes * topic) 0) name_bytes) (get_or names (row_bytes * topic) 0) 0) 0

-- so many bytes of a list, from a place on
abbrev pub run : List ℕ → ℕ → ℕ → List ℕ
run src start size = gather size (λ i. get_or src (start + i) 0 ∷ [])

unfoldable pub name_of : List ℕ → ℕ → List ℕ
name_of names topic = run names (row_bytes * topic + 1) (name_size names topic)

-- ---- message ids: the id of a number's row
abbrev pub id_at : List ℕ → Option ℕ → List ℕ
id_at ids (Some k) = run ids (id_start k) (id_size ids k)
id_at ids None = []

unfoldable pub id_of : List ℕ → List ℕ → ℕ → List ℕ
id_of ids numbers v = id_at ids (number_row numbers v)

-- ---- entries
-- "subscriptions 1 (subscribe 1, topic 2)"; "GRAFT has topicID 1; PRUNE topicID 1, [..] backoff 3": a subscription's number stands before
-- its name, a PRUNE's after it
abbrev pub early : ℕ → ℕ → ℕ
early kind v = cond (eqb kind subscription) v 0

abbrev pub late : ℕ → ℕ → ℕ
late kind v = cond (eqb kind prune) v 0

abbrev pub name_number : ℕ → ℕ
name_number kind = cond (eqb kind subscription) 2 1

unfoldable pub named_bytes : List ℕ → ℕ → ℕ → ℕ → List ℕ
named_bytes names kind topic v =
    value_field 1 (early kind v) ++ (part_field (name_number kind) (name_of names topic) ++ value_field 3 (late kind v))

-- an entry's content: of an IDONTWANT the id's bytes
unfoldable pub entry_bytes : Known → ℕ → ℕ → ℕ → List ℕ
entry_bytes k kind topic v = cond (eqb kind idontwant) (id_of k.ids k.numbers v) (named_bytes k.names kind topic v)

-- an entry as a field of the number, if it is of the kind
unfoldable pub one_bytes : Known → ℕ → ℕ → ℕ → ℕ → ℕ → List ℕ
one_bytes k own topic v kind number = cond (eqb own kind) (part_field number (entry_bytes k own topic v)) []

-- all entries of a kind, as listed
unfoldable pub kind_bytes : Known → List ℕ → ℕ → ℕ → ℕ → List ℕ
kind_bytes k list n kind number =
    gather n (λ i. one_bytes k (get_or list (3 * i) 0) (get_or list (3 * i + 1) 0) (get_or list (3 * i + 2) 0) kind number)

-- a field with a content, or none
unfoldable pub inner_field : ℕ → List ℕ → List ℕ
inner_field number content = cond (eqb (length content) 0) [] (part_field number content)

-- "control holds [..] graft 3, prune 4"; order 6: "Control entry 5 (messageIDs 1) is [..] written, all ids in one field"
unfoldable pub control_bytes : Known → List ℕ → ℕ → List ℕ
control_bytes k list n = kind_bytes k list n graft 3 ++ (kind_bytes k list n prune 4 ++ inner_field 5 (kind_bytes k list n idontwant 1))

-- "RPC subscriptions 1, [..] control 3"; "one control field or none"
unfoldable pub message_of : Known → List ℕ → ℕ → List ℕ
message_of k list n = kind_bytes k list n subscription 1 ++ inner_field 3 (control_bytes k list n)

-- ---- "Any other list is 2, first"
-- a topic that has a name; a join (1) or leave (0), a GRAFT, a PRUNE and its seconds
unfoldable pub named_ok : List ℕ → ℕ → ℕ → ℕ → Bool
named_ok names kind topic v =
    ltb 0 (name_size names topic)
    && ((eqb kind subscription && leb v 1) || (eqb kind graft && eqb v 0) || (eqb kind prune && leb v most_seconds))

-- an IDONTWANT: 0 in the topic's place, and a number of the table ("a number not in it 2")
abbrev pub is_found : Option ℕ → Bool
is_found (Some k) = true
is_found None = false

unfoldable pub notice_ok : List ℕ → ℕ → ℕ → ℕ → Bool
notice_ok numbers kind topic v = eqb kind idontwant && (eqb topic 0 && is_found (number_row numbers v))

unfoldable pub entry_ok : Known → ℕ → ℕ → ℕ → Bool
entry_ok k kind topic v = named_ok k.names kind topic v || notice_ok k.numbers kind topic v

unfoldable pub list_ok : Known → List ℕ → ℕ → Bool
list_ok k list n =
    leb n (most_changes + most_actions)
    && (leb (3 * n) (length list)
    && every n (λ i. entry_ok k (get_or list (3 * i) 0) (get_or list (3 * i + 1) 0) (get_or list (3 * i + 2) 0)))

pub record Writing : Type 0 where
  pub answer : Result ℕ WriteError
  pub bytes : List ℕ

-- "a buffer shorter than the message, and here only that, a new number 13. The buffer is unchanged by either, and past the message." Order
-- 6: a table with an id or number twice is 2 too.
unfoldable pub write_of : Known → List ℕ → List ℕ → ℕ → List ℕ → Writing
write_of k order list n buf =
    cond (table_ok k.ids k.numbers order && list_ok k list n)
    (cond (ltb (length buf) (length (message_of k list n))) (record { answer = Err Short; bytes = buf })
    (record { answer = Ok (length (message_of k list n)); bytes = sets buf 0 (message_of k list n) }))
    (record { answer = Err NotList; bytes = buf })

-- ---- the answer's number, and the value that goes with it
abbrev pub wrote_number : Result ℕ WriteError → ℕ
wrote_number (Ok n) = 0
wrote_number (Err NotList) = 2
wrote_number (Err Short) = 13

abbrev pub wrote_value : Result ℕ WriteError → ℕ
wrote_value (Ok n) = n
wrote_value (Err NotList) = 0
wrote_value (Err Short) = 0

-- ---- what the code's parts promise
-- `bytes` stand in the buffer from `at` on, as far as it goes, all else is as it was, and `next` is the place after them
abbrev pub Stored : List ℕ → ℕ → List ℕ → ℕ → List ℕ → Type 0
Stored buf at bytes next out = (next ≡ at + length bytes) × (out ≡ sets buf at bytes)

-- the same of a buffer lent by `&mut`, which has a content at the call's entry and one at its exit; they are at most so many
abbrev pub Lent : Type 0
Lent = Both (MutBor (List ℕ)) (MutBor (List ℕ))

-- and of memory that is lent by `&`, to be read
abbrev pub Shown : Type 0
Shown = Both (Bor (List ℕ)) (Bor (List ℕ))

abbrev pub Puts : Lent → ℕ → List ℕ → ℕ → ℕ → Type 0
Puts buf at bytes most next = Stored buf.entry.now at bytes next buf.exit.now × (next ≤ at + most)

abbrev pub Writes : Writing → Result ℕ WriteError → Lent → Type 0
Writes w r buf = (r ≡ w.answer) × (buf.exit.now ≡ w.bytes)

abbrev pub ControlSize : Known → List ℕ → ℕ → ℕ → Type 0
ControlSize k list n size = (size ≡ length (control_bytes k list n)) × (size ≤ 11520)

-- how many bytes a field of wire type 2 has
abbrev pub part_size : ℕ → ℕ → ℕ
part_size number size = length (encode (8 * number + 2)) + length (encode size) + size

-- n of `size` bytes from `at` on stand before the end, and no further one does
pub record Fitting (end at size n : ℕ) : Type 0 where
  pub some : n ≤ size
  pub room : n ≤ end - at
  pub most : n < size → end ≤ at + n
