-- What a function on the array relies on: its length, and that test 12 found it right beside some table's state.
use Rattle.std.specs.Prelude.{ℕ, ◌≤◌, ◌<◌, ◌≡◌, Bool, true, List, map, ltb, length, get_or}
use Rattle.records.specs.Records.{State, slot_count, topic_count}
use Rattle.layout.specs.View.{cell_count, state_of}
use Rattle.validity.specs.Valid.{valid}
use Rattle.gossip.specs.Notes.{Gossip, note_in, store_in, stored, count_in, window_most, rows_most, numbers_most}
use Rattle.gossip.specs.Valid.{row_number, gossip_ok}
use Rattle.stores.specs.View.{Windows}
use Rattle.replies.specs.View.{replies_of}
use Rattle.gossip.specs.Step.{has_room, running}
use Rattle.gossip_table.specs.View.{gossip_cells, gossip_of, stores_part, replies_part}

pub record Fine (gossip : List ℕ) : Type 0 where
  pub size : length gossip ≡ gossip_cells
  pub base : State
  pub ok : gossip_ok base (gossip_of gossip) ≡ true

pub record FineSlot (gossip : List ℕ) (s : ℕ) : Type 0 where
  pub fine : Fine gossip
  pub slot : s < slot_count

pub record FineTopic (gossip : List ℕ) (t : ℕ) : Type 0 where
  pub fine : Fine gossip
  pub topic : t < topic_count

-- an array of any content, and a slot
pub record Lent (gossip : List ℕ) (s : ℕ) : Type 0 where
  pub size : length gossip ≡ gossip_cells
  pub slot : s < slot_count

-- a number more may be put into the set of a slot
pub record HasRoom (gossip : List ℕ) (s : ℕ) : Type 0 where
  pub fine : Fine gossip
  pub slot : s < slot_count
  pub room : has_room (gossip_of gossip).setup (note_in (gossip_of gossip) s) ≡ true

-- this heartbeat of a topic has room
pub record StoreFits (gossip : List ℕ) (t : ℕ) : Type 0 where
  pub fine : Fine gossip
  pub topic : t < topic_count
  pub room : ltb (running (store_in (gossip_of gossip) t)) window_most ≡ true

-- an IWANT may be answered
pub record ReplyFits (gossip : List ℕ) (n s : ℕ) : Type 0 where
  pub fine : Fine gossip
  pub slot : s < slot_count
  pub kept : stored (gossip_of gossip) n ≡ true
  pub few : count_in (gossip_of gossip).replies n s < 32

-- lent lists of numbers
pub record Announces (gossip : List ℕ) (t : ℕ) (list : List ℕ) : Type 0 where
  pub fine : Fine gossip
  pub topic : t < topic_count
  pub room : numbers_most ≤ length list

pub record Wants (gossip given list : List ℕ) : Type 0 where
  pub fine : Fine gossip
  pub few : length given ≤ numbers_most
  pub room : numbers_most ≤ length list

-- the sizes of stores and replies alone, which a store to one of them keeps
pub record Kept (gossip : List ℕ) : Type 0 where
  pub size : length gossip ≡ gossip_cells
  pub windows : Windows (stores_part gossip)
  pub rows : length (replies_of (replies_part gossip)) ≤ rows_most

pub record KeptSlot (gossip : List ℕ) (s : ℕ) : Type 0 where
  pub kept : Kept gossip
  pub slot : s < slot_count

pub record KeptRow (gossip : List ℕ) (r : ℕ) : Type 0 where
  pub size : length gossip ≡ gossip_cells
  pub windows : Windows (stores_part gossip)
  pub rows : length (replies_of (replies_part gossip)) ≤ rows_most
  pub row : r < length (replies_of (replies_part gossip))

-- whether the number of a row is stored
abbrev pub is_kept : Gossip → ℕ → Bool
is_kept g k = stored g (get_or (map row_number g.replies) k 0)

-- a table and an array of any content
pub record Both (table gossip : List ℕ) : Type 0 where
  pub size : length table ≡ cell_count
  pub sizes : length gossip ≡ gossip_cells

-- a router's table, and an array of any content beside it
pub record Beside (table gossip : List ℕ) : Type 0 where
  pub size : length table ≡ cell_count
  pub router : valid (state_of table) ≡ true
  pub sizes : length gossip ≡ gossip_cells

-- the stores were found right
pub record Stored (table gossip : List ℕ) : Type 0 where
  pub size : length table ≡ cell_count
  pub router : valid (state_of table) ≡ true
  pub sizes : length gossip ≡ gossip_cells
  pub windows : Windows (stores_part gossip)

-- one of the slots, and two of the set-up numbers
pub record Noted (table gossip : List ℕ) (s limit ihaves : ℕ) : Type 0 where
  pub size : length table ≡ cell_count
  pub sizes : length gossip ≡ gossip_cells
  pub slot : s < slot_count
  pub puts : limit ≡ (gossip_of gossip).setup.limit
  pub answers : ihaves ≡ (gossip_of gossip).setup.ihaves
