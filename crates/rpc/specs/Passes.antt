-- What the functions of the reader promise to each other. Who believes the promise of `read` needs none of it. The first pass finds whether
-- the message is whole and counts the entries of each kind; the second puts each entry at the next place of its kind.
use Rattle.std.specs.Prelude.{Result, Ok, Err}
use Rattle.fields.specs.declared.Torn.{Torn}
use Rattle.rpc.specs.declared.ReadError.{ReadError}
use Rattle.std.specs.Prelude.{ℕ, ◌+◌, ◌-◌, ◌*◌, ◌≤◌, ◌<◌, ◌≡◌, ⊤, cond, List, eqb, length}
use Rattle.std.proofs.lemmas.List.Edits.{sets}
use Rattle.index.specs.Index.{one}
use Rattle.fields.specs.Walk.{Items, items, broken, fields_of}
use Rattle.fields.specs.declared.Part.{Part}
use Rattle.rpc.specs.Messages.{Item, subscription, graft, prune, idontwant, id_item, role_of, message_at, rpc_at, held_of, none_held}
use Rattle.rpc.specs.Reading.{Known, known, numbers_of, only, ordered, Reading}
use Rattle.rpc.specs.declared.Held.{Held}
use Rattle.rpc.specs.declared.Counts.{Counts}
use Rattle.rpc.specs.declared.Role.TheVariants.{Inner}

-- counts stay below it; nothing depends on its size but that no sum overflows
abbrev pub count_limit : ℕ
count_limit = 900000

-- ---- the first pass
abbrev pub torn_at : ℕ → Torn
torn_at q = record { at = q }

abbrev pub checked : {A : Type 0} → Items A → Result ⊤ Torn
checked (items xs) = Ok tt
checked (broken q) = Err (torn_at q)

abbrev pub total : Counts → ℕ
total n = n.subscriptions + n.grafts + n.prunes + n.notices

abbrev pub one_more : Counts → ℕ → Counts
one_more n kind =
    record {
      subscriptions = n.subscriptions + one (eqb kind subscription);
      grafts = n.grafts + one (eqb kind graft);
      prunes = n.prunes + one (eqb kind prune);
      notices = n.notices + one (eqb kind idontwant);
    }

-- counting goes on from n
unfoldable pub tally : Counts → List Item → Counts
tally n xs =
    record {
      subscriptions = n.subscriptions + length (only subscription xs);
      grafts = n.grafts + length (only graft xs);
      prunes = n.prunes + length (only prune xs);
      notices = n.notices + length (only idontwant xs);
    }

abbrev pub counted : Counts → Items Item → Result Counts Torn
counted n (items xs) = Ok (tally n xs)
counted n (broken q) = Err (torn_at q)

-- a message from a place on, and a field, after n entries: no count reaches the limit, whatever they hold
abbrev pub Within : List ℕ → ℕ → Counts → Type 0
Within s at n = (at ≤ length s) × (total n + (length s - at) ≤ count_limit)

abbrev pub FieldWithin : List ℕ → Part → Counts → Type 0
FieldWithin s p n = (p.start ≤ p.next) × ((p.next ≤ length s) × (total n + (p.next - p.start) < count_limit))

-- an inner message of a message of a kind, with so many levels left
abbrev pub CountsInner : ℕ → ℕ → List ℕ → ℕ → Counts → Result Counts Torn → Type 0
CountsInner kind d s at n r = (number wire k : ℕ) → role_of kind number wire ≡ Inner k → r ≡ counted n (message_at d k s at)

abbrev pub none_counted : Counts
none_counted = record { subscriptions = 0; grafts = 0; prunes = 0; notices = 0 }

-- ---- the second pass
-- what an entry's message holds, if it is whole; its name lies in the message
pub record Holds (kind : ℕ) (s : List ℕ) (at : ℕ) (h : Held) : Type 0 where
  pub is : (ps : List Part) → fields_of s at ≡ items ps → h ≡ held_of kind ps none_held
  pub order : h.start ≤ h.stop
  pub high : h.stop ≤ length s

-- the place of the next entry of a kind
unfoldable pub place_of : Counts → ℕ → ℕ
place_of n kind =
    cond (eqb kind subscription) n.subscriptions (cond (eqb kind graft) n.grafts (cond (eqb kind prune) n.prunes n.notices))

-- an entry is put at a place
abbrev pub Puts : Known → List ℕ → Items Item → ℕ → List ℕ → List ℕ → Type 0
Puts k s x n list out = (xs : List Item) → x ≡ items xs → out ≡ sets list (3 * n) (numbers_of k s xs)

-- one with a topic's name, whatever the ids are; and an id, whatever the names are
abbrev pub PutsNamed : List ℕ → List ℕ → ℕ → Items Item → ℕ → List ℕ → List ℕ → Type 0
PutsNamed names s kind x n list out = (ids numbers : List ℕ) → kind ≤ 2 → Puts (known names ids numbers) s x n list out

abbrev pub PutsId : List ℕ → List ℕ → List ℕ → Part → ℕ → List ℕ → List ℕ → Type 0
PutsId ids numbers s p n list out = (names : List ℕ) → Puts (known names ids numbers) s (id_item p) n list out

-- the entries of each kind, one after the other from the place of the kind on
unfoldable pub filed : Known → List ℕ → Counts → List Item → List ℕ → List ℕ
filed k s n xs list =
    sets
    (sets
    (sets (sets list (3 * n.subscriptions) (numbers_of k s (only subscription xs))) (3 * n.grafts) (numbers_of k s (only graft xs)))
    (3 * n.prunes)
    (numbers_of k s (only prune xs)))
    (3 * n.notices)
    (numbers_of k s (only idontwant xs))

-- no kind reaches the place of the next
pub record Apart (n : Counts) (xs : List Item) : Type 0 where
  pub first : n.subscriptions + length (only subscription xs) ≤ n.grafts
  pub second : n.grafts + length (only graft xs) ≤ n.prunes
  pub third : n.prunes + length (only prune xs) ≤ n.notices

-- where the kinds start in the list, if there are n of each
abbrev pub starts : Counts → Counts
starts n =
    record {
      subscriptions = 0;
      grafts = n.subscriptions;
      prunes = n.subscriptions + n.grafts;
      notices = n.subscriptions + n.grafts + n.prunes;
    }

-- what a part of the pass leaves, if its part of the message is whole: the next places, and the list
abbrev pub Collects : Known → List ℕ → Items Item → Counts → List ℕ → Counts → List ℕ → Type 0
Collects k s x n list r out = (xs : List Item) → x ≡ items xs → Apart n xs → (r ≡ tally n xs) × (out ≡ filed k s n xs list)

-- the same of a part that has so many bytes, and no more entries
abbrev pub Adds : Known → List ℕ → Items Item → ℕ → Counts → List ℕ → Counts → List ℕ → Type 0
Adds k s x bytes n list r out = Collects k s x n list r out × (total r ≤ total n + bytes)

-- an inner message of a message of a kind, with so many levels left
abbrev pub CollectsInner : ℕ → ℕ → Known → List ℕ → List ℕ → ℕ → Counts → List ℕ → Counts → List ℕ → Type 0
CollectsInner kind d lent all s at n list r out =
    (number wire k : ℕ) → role_of kind number wire ≡ Inner k → Adds lent all (message_at d k s at) (length s - at) n list r out

-- what the whole pass leaves, if the first one counted n
abbrev pub Fills : Known → List ℕ → Counts → List ℕ → ℕ → List ℕ → Type 0
Fills k s n list r out =
    (xs : List Item) →
    rpc_at s 0 ≡ items xs →
    n ≡ tally none_counted xs →
    (r ≡ length xs) × (out ≡ sets list 0 (numbers_of k s (ordered xs)))

-- what `read` gives
abbrev pub Reads : Reading → Result ℕ ReadError → List ℕ → Type 0
Reads w r out = (r ≡ w.answer) × (out ≡ w.list)
