-- The two forms of a table, each turned into the other (02, order 10: "a router's tables turn from each form into the other without
-- loss").
use Rattle.std.specs.Prelude.{Result, Ok, Err}
use Rattle.forms.specs.declared.TurnError.{TurnError}
use Rattle.forms.specs.declared.TurnError.TheVariants.{NotRouter}
use Rattle.std.specs.Prelude.{ℕ, ◌+◌, ◌*◌, ◌/◌, ◌<◌, ◌≡◌, Bool, true, false, List, length, get_or}
use Rattle.index.specs.Index.{iter}
use Rattle.records.specs.Records.{State, slot_count, topic_count, param_count, joined_in, peer_in, topic_in, set_joined, set_peer, set_topic}
use Rattle.layout.specs.View.{place_count, word_cells, column_count, clock_at, joined_at, setup_at, params_at, peers_at, ends_at, p3b_at, cell_count}
use Rattle.layout.specs.View.{bit_at, live_at, counter_of, graft_of, mesh_of, subscribed_word, member_word, column_of, param_place, state_of}
use Rattle.rows.specs.View.{rows_count, state_of_rows}
use Rattle.validity.specs.Valid.{valid}

-- the first n entries of st, put into u one after the other
abbrev pub copy_joined : ℕ → State → State → State
copy_joined n st u = iter n (λ t w. set_joined w t (joined_in st t)) u

abbrev pub copy_peers : ℕ → State → State → State
copy_peers n st u = iter n (λ s w. set_peer w s (peer_in st s)) u

abbrev pub copy_topics : ℕ → State → State → State
copy_topics n st u = iter n (λ k w. set_topic w k (topic_in st k)) u

-- what the copying may rely on, from the old form and back; no public function asks it of its caller
pub record Between (rows table : List ℕ) : Type 0 where
  pub from : length rows ≡ rows_count
  pub to : length table ≡ cell_count
  pub router : valid (state_of_rows rows) ≡ true

pub record Back (table rows : List ℕ) : Type 0 where
  pub from : length table ≡ cell_count
  pub to : length rows ≡ rows_count
  pub router : valid (state_of table) ≡ true

-- the answer by test 12
abbrev pub turned_of : Bool → Result (Unit {0}) TurnError
turned_of true = Ok tt
turned_of false = Err NotRouter

-- 01's number of an answer
abbrev pub turned_number : Result (Unit {0}) TurnError → ℕ
turned_number (Ok tt) = 0
turned_number (Err NotRouter) = 12

-- `table` stood there, and table' stands there after it: the same state, or, if it is no router's, what stood there
pub record FromRows (r : Result (Unit {0}) TurnError) (rows table table' : List ℕ) : Type 0 where
  pub answer : r ≡ turned_of (valid (state_of_rows rows))
  pub state : r ≡ Ok tt → state_of table' ≡ state_of_rows rows
  pub kept : r ≡ Err NotRouter → table' ≡ table

pub record ToRows (r : Result (Unit {0}) TurnError) (table rows rows' : List ℕ) : Type 0 where
  pub answer : r ≡ turned_of (valid (state_of table))
  pub state : r ≡ Ok tt → state_of_rows rows' ≡ state_of table
  pub kept : r ≡ Err NotRouter → rows' ≡ rows

-- "without loss", from the old form and back: every cell comes back
abbrev pub RowsReturn : Type 0
RowsReturn =
    (r q : Result (Unit {0}) TurnError) (rows table table' out rows' : List ℕ) →
    length rows ≡ rows_count →
    length rows' ≡ rows_count →
    valid (state_of_rows rows) ≡ true →
    FromRows r rows table table' →
    ToRows q table' out rows' →
    rows' ≡ rows

-- how many words by slot the peers have
abbrev pub flag_count : ℕ
flag_count = 6

-- the cells in use of two tables are the same: a column's below the mark, past it a cell counts as 0; a member's times
pub record SameCells (c d : List ℕ) : Type 0 where
  pub clock : get_or c clock_at 0 ≡ get_or d clock_at 0
  pub joined : (t : ℕ) → t < topic_count → get_or c (joined_at + t) 0 ≡ get_or d (joined_at + t) 0
  pub setup : get_or c setup_at 0 ≡ get_or d setup_at 0
  pub params : (i : ℕ) → i < param_count → get_or c (params_at + param_place i) 0 ≡ get_or d (params_at + param_place i) 0
  pub flags : (p s : ℕ) → p < flag_count → s < slot_count → bit_at c (peers_at + p * word_cells) s ≡ bit_at d (peers_at + p * word_cells) s
  pub columns : (j s : ℕ) → j < column_count → s < slot_count → live_at c s (column_of j s) ≡ live_at d s (column_of j s)
  pub ends : (s t : ℕ) → s < slot_count → t < topic_count → live_at c s (ends_at + s * 8 + t) ≡ live_at d s (ends_at + s * 8 + t)
  pub subscribed : (k : ℕ) → k < place_count → bit_at c (subscribed_word k) (k / 8) ≡ bit_at d (subscribed_word k) (k / 8)
  pub member : (k : ℕ) → k < place_count → bit_at c (member_word k) (k / 8) ≡ bit_at d (member_word k) (k / 8)
  pub counters : (k : ℕ) → k < place_count → live_at c (k / 8) (counter_of k) ≡ live_at d (k / 8) (counter_of k)
  pub p3b : (k : ℕ) → k < place_count → live_at c (k / 8) (p3b_at + k) ≡ live_at d (k / 8) (p3b_at + k)
  pub graft : (k : ℕ) → k < place_count → bit_at c (member_word k) (k / 8) ≡ 1 → get_or c (graft_of k) 0 ≡ get_or d (graft_of k) 0
  pub mesh : (k : ℕ) → k < place_count → bit_at c (member_word k) (k / 8) ≡ 1 → get_or c (mesh_of k) 0 ≡ get_or d (mesh_of k) 0

-- and to the old form and back: the state comes back, and so does every cell in use
abbrev pub TableReturns : Type 0
TableReturns =
    (r q : Result (Unit {0}) TurnError) (table rows rows' out table' : List ℕ) →
    valid (state_of table) ≡ true →
    ToRows r table rows rows' →
    FromRows q rows' out table' →
    (state_of table' ≡ state_of table) × SameCells table' table
