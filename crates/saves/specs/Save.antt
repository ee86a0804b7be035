-- What a save holds (02, order 8): "Save the records in seven-bit groups: an edition number 1, a count, then records by ascending id."
-- Order 9: "Trace and saved forms get edition 2"; order 11: "The saved form stays edition 2."
use Rattle.std.specs.Prelude.{Result, Ok, Err}
use Rattle.saves.specs.declared.SaveError.{SaveError}
use Rattle.saves.specs.declared.SaveError.TheVariants.{Early, NotRouter, OutOfRange, Short}
use Rattle.std.specs.Prelude.{ℕ, ◌-◌, Bool, cond, not, ◌&&◌, List, [], ◌∷◌, ◌++◌, ltb, length, get_or}
use Rattle.std.proofs.lemmas.List.Edits.{sets}
use Rattle.index.specs.Index.{iter, gather}
use Rattle.varint.specs.Groups.{encode}
use Rattle.records.specs.declared.Peer.{Peer}
use Rattle.records.specs.declared.TopicRecord.{TopicRecord}
use Rattle.records.specs.Records.{State, slot_count, topic_count, place, peer_in, topic_in, is_connected, is_retained}
use Rattle.rows.specs.Rows.{joins}
use Rattle.effects.specs.Effects.{retained_to, end_after, retain_seconds, reclaimable}
use Rattle.validity.specs.Valid.{max_time, valid}

abbrev pub edition : ℕ
edition = 2

-- ---- one record: four numbers, then five for each topic
abbrev pub row_size : ℕ
row_size = 44

-- "the counters of P2, P3, P3b, P4 and the remaining backoff time"
unfoldable pub topic_row : TopicRecord → ℕ → List ℕ
topic_row r left = r.p2 ∷ r.p3 ∷ r.p3b ∷ r.p4 ∷ left ∷ []

-- "Each holds id, remaining retain time, P5 (signed), P7, then for each topic [..]; times are in milliseconds, 0 when over": `-` stops at
-- 0, and P5 stands in a record by its code
unfoldable pub row_of : ℕ → Peer → (ℕ → TopicRecord) → List ℕ
row_of time p topic =
    p.id
    ∷ (p.retain - time)
    ∷ p.p5
    ∷ p.p7
    ∷ gather topic_count (λ t. topic_row (topic t) (get_or p.backoff t 0 - time))

-- ---- which records, and in which order
-- "A connected peer is saved as if disconnected at that moment"
unfoldable pub as_left : State → ℕ → Peer → Peer
as_left st time p = cond (is_connected p) (retained_to p (end_after time (retain_seconds st))) p

-- "reclaimable ones are not written"
unfoldable pub is_saved : State → ℕ → ℕ → Bool
is_saved st time s =
    is_retained (as_left st time (peer_in st s)) && not (reclaimable (as_left st time (peer_in st s)) time)

unfoldable pub saved_row : State → ℕ → ℕ → List ℕ
saved_row st time s = row_of time (as_left st time (peer_in st s)) (λ t. topic_in st (place s t))

-- a slot put among others by its id
unfoldable pub insert : State → ℕ → List ℕ → List ℕ
insert st s [] = s ∷ []
insert st s (k ∷ l) = cond (ltb (peer_in st k).id (peer_in st s).id) (k ∷ insert st s l) (s ∷ k ∷ l)

unfoldable pub placed : State → ℕ → ℕ → List ℕ → List ℕ
placed st time s l = cond (is_saved st time s) (insert st s l) l

-- the slots of the saved records, "by ascending id"
unfoldable pub order : State → ℕ → List ℕ
order st time = iter slot_count (placed st time) []

-- ---- the whole
unfoldable pub body_of : State → ℕ → List ℕ
body_of st time = joins (saved_row st time) (order st time)

unfoldable pub numbers_of : State → ℕ → List ℕ
numbers_of st time = edition ∷ length (order st time) ∷ body_of st time

unfoldable pub bytes_of : List ℕ → List ℕ
bytes_of [] = []
bytes_of (n ∷ l) = encode n ++ bytes_of l

unfoldable pub save_of : State → ℕ → List ℕ
save_of st time = bytes_of (numbers_of st time)

-- ---- the answer, and the buffer's bytes after it
pub record Saving : Type 0 where
  pub answer : Result ℕ SaveError
  pub bytes : List ℕ

abbrev pub kept : Result ℕ SaveError → List ℕ → Saving
kept a buf = record { answer = a; bytes = buf }

-- "a buffer shorter than the save is 13 and unchanged"
abbrev pub storing : (save buf : List ℕ) → Saving
storing save buf =
    cond (ltb (length buf) (length save)) (kept (Err Short) buf) (record { answer = Ok (length save); bytes = sets buf 0 save })

-- "A save tests 12, 2, 1, and [13]; it moves no clock."
unfoldable pub saving_of : State → ℕ → List ℕ → Saving
saving_of st time buf =
    cond (not (valid st)) (kept (Err NotRouter) buf)
    (cond (ltb max_time time) (kept (Err OutOfRange) buf)
    (cond (ltb time st.clock) (kept (Err Early) buf)
    (storing (save_of st time) buf)))

-- 01's number of each answer, and the value that goes with it
abbrev pub saved_number : Result ℕ SaveError → ℕ
saved_number (Ok n) = 0
saved_number (Err Early) = 1
saved_number (Err OutOfRange) = 2
saved_number (Err NotRouter) = 12
saved_number (Err Short) = 13

abbrev pub saved_value : Result ℕ SaveError → ℕ
saved_value (Ok n) = n
saved_value (Err Early) = 0
saved_value (Err OutOfRange) = 0
saved_value (Err NotRouter) = 0
saved_value (Err Short) = 0
