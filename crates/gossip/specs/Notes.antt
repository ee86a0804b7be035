-- What orders 6 and 7 add to the router's state: set-up numbers, a note for each slot, a store for each topic, and the replies.
-- Every list has one form for one content: a set and the replies rise by number, a store goes by heartbeat and arrival.
use Rattle.std.specs.Prelude.{ℕ, zero, suc, ◌+◌, Bool, false, cond, ◌||◌, List, [], ◌∷◌, ◌++◌, map, eqb, ltb, get_or, set, take, replicate}
use Rattle.records.specs.Records.{State, slot_count, topic_count}

-- ---- sizes
-- "that peer's set of at most 32"; "an entry goes at the third one after its arrival"
abbrev pub set_most : ℕ
set_most = 32

abbrev pub last_age : ℕ
last_age = 2

-- "the last five heartbeats' message numbers per topic, the running one counted, at most 64 a heartbeat"; "the last three's"
abbrev pub window_count : ℕ
window_count = 5

abbrev pub window_most : ℕ
window_most = 64

abbrev pub announced_windows : ℕ
announced_windows = 3

-- as many numbers as the stores of all topics hold
abbrev pub rows_most : ℕ
rows_most = 2560

-- "a lent list of 192 numbers"
abbrev pub numbers_most : ℕ
numbers_most = 192

-- ---- the records
pub record Setup : Type 0 where
  -- order 6: numbers put in per record and heartbeat
  pub limit : ℕ
  -- order 7: D_lazy, the factor in thousandths, IHAVE messages per record and heartbeat, IWANT replies per connection and message
  pub lazy : ℕ
  pub factor : ℕ
  pub ihaves : ℕ
  pub replies : ℕ

-- a number in a peer's set, and how many heartbeats came since its arrival
pub record Entry : Type 0 where
  pub number : ℕ
  pub age : ℕ

-- what a peer's record holds besides 01's: the set (by rising number), and the two counts of this heartbeat
pub record Note : Type 0 where
  pub held : List Entry
  pub puts : ℕ
  pub ihaves : ℕ

-- a number that IWANTs were answered with, and how often in the connection of each slot
pub record Row : Type 0 where
  pub number : ℕ
  pub counts : List ℕ

-- a store: the numbers of each heartbeat in the order of storing, the running heartbeat's first; the replies by rising number, "while it
-- stays stored", whatever topics store it
pub record Gossip : Type 0 where
  pub setup : Setup
  pub notes : List Note
  pub stores : List (List (List ℕ))
  pub replies : List Row

pub record Extended : Type 0 where
  pub base : State
  pub gossip : Gossip

abbrev pub no_note : Note
no_note = record { held = []; puts = 0; ihaves = 0 }

abbrev pub no_store : List (List ℕ)
no_store = [] ∷ [] ∷ [] ∷ [] ∷ [] ∷ []

-- ---- what the calls read
unfoldable pub note_in : Gossip → ℕ → Note
note_in g s = get_or g.notes s no_note

unfoldable pub store_in : Gossip → ℕ → List (List ℕ)
store_in g t = get_or g.stores t no_store

unfoldable pub has : ℕ → List ℕ → Bool
has n [] = false
has n (m ∷ l) = eqb m n || has n l

abbrev pub number_of : Entry → ℕ
number_of e = e.number

-- the set holds the number
unfoldable pub holds : Note → ℕ → Bool
holds p n = has n (map number_of p.held)

-- one of the heartbeats has it
unfoldable pub stored_in : List (List ℕ) → ℕ → Bool
stored_in [] n = false
stored_in (w ∷ l) n = has n w || stored_in l n

-- f holds at an index below n
unfoldable pub some : ℕ → (ℕ → Bool) → Bool
some zero f = false
some (suc n) f = some n f || f n

-- some topic stores it
unfoldable pub stored : Gossip → ℕ → Bool
stored g n = some topic_count (λ t. stored_in (store_in g t) n)

-- ---- what the calls change
unfoldable pub set_note : Gossip → ℕ → Note → Gossip
set_note g s p = record { setup = g.setup; notes = set g.notes s p; stores = g.stores; replies = g.replies }

unfoldable pub set_store : Gossip → ℕ → List (List ℕ) → Gossip
set_store g t w = record { setup = g.setup; notes = g.notes; stores = set g.stores t w; replies = g.replies }

unfoldable pub set_replies : Gossip → List Row → Gossip
set_replies g l = record { setup = g.setup; notes = g.notes; stores = g.stores; replies = l }

-- into a set, by number
unfoldable pub put_in : ℕ → List Entry → List Entry
put_in n [] = record { number = n; age = 0 } ∷ []
put_in n (e ∷ l) = cond (ltb n e.number) (record { number = n; age = 0 } ∷ e ∷ l) (e ∷ put_in n l)

-- "an entry goes at the third one after its arrival"
abbrev pub older : Entry → List Entry → List Entry
older e l = cond (ltb e.age last_age) (record { number = e.number; age = e.age + 1 } ∷ l) l

unfoldable pub aged : List Entry → List Entry
aged [] = []
aged (e ∷ l) = older e (aged l)

-- a new heartbeat of a store
unfoldable pub moved : List (List ℕ) → List (List ℕ)
moved w = [] ∷ take 4 w

-- into the running heartbeat
unfoldable pub added : ℕ → List (List ℕ) → List (List ℕ)
added n [] = []
added n (w ∷ l) = (w ++ (n ∷ [])) ∷ l

-- ---- the replies
-- how often the connection in slot s was answered with number n
unfoldable pub count_in : List Row → ℕ → ℕ → ℕ
count_in [] n s = 0
count_in (r ∷ l) n s = cond (eqb r.number n) (get_or r.counts s 0) (count_in l n s)

abbrev pub first_reply : ℕ → ℕ → Row
first_reply n s = record { number = n; counts = set (replicate slot_count 0) s 1 }

abbrev pub one_more : Row → ℕ → Row
one_more r s = record { number = r.number; counts = set r.counts s (get_or r.counts s 0 + 1) }

-- one more reply with number n to slot s, by number
unfoldable pub replied : ℕ → ℕ → List Row → List Row
replied n s [] = first_reply n s ∷ []
replied n s (r ∷ l) =
    cond (ltb n r.number) (first_reply n s ∷ r ∷ l)
    (cond (eqb n r.number) (one_more r s ∷ l) (r ∷ replied n s l))

-- a connection's counts end with it
abbrev pub ended_row : ℕ → Row → Row
ended_row s r = record { number = r.number; counts = set r.counts s 0 }

unfoldable pub ended : ℕ → List Row → List Row
ended s [] = []
ended s (r ∷ l) = ended_row s r ∷ ended s l

-- counts live "while it stays stored": those of numbers that no topic stores any more go
abbrev pub also : Bool → Row → List Row → List Row
also b r l = cond b (r ∷ l) l

unfoldable pub keep : (ℕ → Bool) → List Row → List Row
keep f [] = []
keep f (r ∷ l) = also (f r.number) r (keep f l)

unfoldable pub forget : Gossip → Gossip
forget g = set_replies g (keep (stored g) g.replies)

-- ---- a fresh router's
unfoldable pub fresh_gossip : Setup → Gossip
fresh_gossip p =
    record { setup = p; notes = replicate slot_count no_note; stores = replicate topic_count no_store; replies = [] }
