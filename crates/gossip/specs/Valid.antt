-- Test 12 of the new parts: "Test 12 also asks that sets, counts and stores are within bounds, no peer's set or topic's store holding a
-- number twice, or any if not connected or not joined."
use Rattle.std.specs.Prelude.{ℕ, ◌≡◌, Bool, true, false, cond, not, ◌&&◌, ◌||◌, List, [], ◌∷◌, ◌++◌, map, eqb, leb, ltb, length, get_or}
use Rattle.index.specs.Index.{every}
use Rattle.records.specs.declared.Peer.{Peer}
use Rattle.records.specs.Records.{State, slot_count, topic_count, peer_in, is_empty, is_connected}
use Rattle.validity.specs.Valid.{valid}
use Rattle.effects.specs.Effects.{is_joined}
use Rattle.gossip.specs.Notes.{Setup, Entry, Note, Row, Gossip, Extended, set_most, last_age, window_count, window_most, rows_most, note_in}
use Rattle.gossip.specs.Notes.{store_in, has, number_of, stored}

-- every element of a list
unfoldable pub all : {A : Type 0} → (A → Bool) → List A → Bool
all f [] = true
all f (a ∷ l) = f a && all f l

abbrev pub none : {A : Type 0} → List A → Bool
none [] = true
none (a ∷ l) = false

-- each above all before it, and so none twice
unfoldable pub rises : List ℕ → Bool
rises [] = true
rises (n ∷ l) = all (ltb n) l && rises l

-- none twice, in any order
unfoldable pub apart : List ℕ → Bool
apart [] = true
apart (n ∷ l) = not (has n l) && apart l

unfoldable pub flat : List (List ℕ) → List ℕ
flat [] = []
flat (w ∷ l) = w ++ flat l

-- "A limit of 1..32"; "D_lazy 0..48 and the factor 0..1000, and bound, each 1..32"
unfoldable pub setup_ok : Setup → Bool
setup_ok p =
    leb 1 p.limit
    && leb p.limit 32
    && leb p.lazy 48
    && leb p.factor 1000
    && (leb 1 p.ihaves && leb p.ihaves 32)
    && (leb 1 p.replies && leb p.replies 32)

-- the set
abbrev pub entry_ok : Entry → Bool
entry_ok e = leb e.age last_age

unfoldable pub set_ok : Bool → List Entry → Bool
set_ok connected held =
    leb (length held) set_most && rises (map number_of held) && all entry_ok held && (connected || none held)

-- "empty records are all zero"
abbrev pub counts_ok : Setup → Bool → Note → Bool
counts_ok p empty n =
    leb n.puts p.limit && leb n.ihaves p.ihaves && (not empty || (eqb n.puts 0 && eqb n.ihaves 0))

unfoldable pub note_ok : Setup → Peer → Note → Bool
note_ok p peer n = set_ok (is_connected peer) n.held && counts_ok p (is_empty peer) n

-- a store
abbrev pub window_ok : List ℕ → Bool
window_ok w = leb (length w) window_most

unfoldable pub store_ok : Bool → List (List ℕ) → Bool
store_ok joined w = all window_ok w && apart (flat w) && (joined || none (flat w))

-- the replies: of stored numbers only, none more often than the bound, and only to who is connected
abbrev pub count_most : State → ℕ → ℕ → ℕ
count_most st most s = cond (is_connected (peer_in st s)) most 0

unfoldable pub row_ok : State → ℕ → Row → Bool
row_ok st most r =
    eqb (length r.counts) slot_count && every slot_count (λ s. leb (get_or r.counts s 0) (count_most st most s))

abbrev pub row_number : Row → ℕ
row_number r = r.number

unfoldable pub replies_ok : State → ℕ → (ℕ → Bool) → List Row → Bool
replies_ok st most f l =
    leb (length l) rows_most && rises (map row_number l) && all f (map row_number l) && all (row_ok st most) l

unfoldable pub gossip_ok : State → Gossip → Bool
gossip_ok st g =
    setup_ok g.setup
    && every slot_count (λ s. note_ok g.setup (peer_in st s) (note_in g s))
    && every topic_count (λ t. store_ok (is_joined st t) (store_in g t))
    && replies_ok st g.setup.replies (stored g) g.replies

-- the tables are a router's
unfoldable pub valid_all : Extended → Bool
valid_all x = valid x.base && gossip_ok x.base x.gossip

-- the sizes that a table gives by its form
pub record SizedGossip (g : Gossip) : Type 0 where
  pub notes : length g.notes ≡ slot_count
  pub stores : length g.stores ≡ topic_count
  pub windows : (t : ℕ) → length (store_in g t) ≡ window_count
