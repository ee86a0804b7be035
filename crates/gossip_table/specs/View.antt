-- How one lent array holds what orders 6 and 7 add to the state: the set-up numbers, then three parts, each known to a crate of its own.
use Rattle.std.specs.Prelude.{ℕ, ◌+◌, List, get_or}
use Rattle.layout.specs.View.{state_of}
use Rattle.notes.specs.View.{notes_cells, notes_of}
use Rattle.stores.specs.View.{stores_cells, stores_of}
use Rattle.replies.specs.View.{replies_cells, replies_of}
use Rattle.gossip.specs.Notes.{Setup, Note, Gossip, Extended}
use Rattle.gossip_table.specs.Parts.{part}

-- the head has room for eight numbers, of which five are in use
abbrev pub notes_at : ℕ
notes_at = 8

abbrev pub stores_at : ℕ
stores_at = notes_at + notes_cells

abbrev pub replies_at : ℕ
replies_at = stores_at + stores_cells

-- how many cells the array has
abbrev pub gossip_cells : ℕ
gossip_cells = replies_at + replies_cells

abbrev pub setup_by : (limit lazy factor ihaves replies : ℕ) → Setup
setup_by limit lazy factor ihaves replies =
    record { limit = limit; lazy = lazy; factor = factor; ihaves = ihaves; replies = replies }

unfoldable pub setup_of : List ℕ → Setup
setup_of c = setup_by (get_or c 0 0) (get_or c 1 0) (get_or c 2 0) (get_or c 3 0) (get_or c 4 0)

abbrev pub notes_part : List ℕ → List ℕ
notes_part c = part notes_at notes_cells c

abbrev pub stores_part : List ℕ → List ℕ
stores_part c = part stores_at stores_cells c

abbrev pub replies_part : List ℕ → List ℕ
replies_part c = part replies_at replies_cells c

unfoldable pub gossip_of : List ℕ → Gossip
gossip_of c =
    record {
      setup = setup_of c;
      notes = notes_of (notes_part c);
      stores = stores_of (stores_part c);
      replies = replies_of (replies_part c);
    }

-- the state that the table and the array hold
abbrev pub extended_of : List ℕ → List ℕ → Extended
extended_of table gossip = record { base = state_of table; gossip = gossip_of gossip }

-- ---- what a store to one part makes of the state
abbrev pub set_setup : Gossip → Setup → Gossip
set_setup g p = record { setup = p; notes = g.notes; stores = g.stores; replies = g.replies }

abbrev pub set_notes : Gossip → List Note → Gossip
set_notes g l = record { setup = g.setup; notes = l; stores = g.stores; replies = g.replies }

abbrev pub set_stores : Gossip → List (List (List ℕ)) → Gossip
set_stores g l = record { setup = g.setup; notes = g.notes; stores = l; replies = g.replies }
