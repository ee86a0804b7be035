-- The table's old form (before 02, order 10): a row of cells for each peer and for each peer in a topic, flags by slot and topic. No cell
-- is left over, so the state fixes every cell (proofs/Whole.antt).
use Rattle.std.specs.Prelude.{ℕ, ◌+◌, ◌*◌, List, [], ◌∷◌, ◌++◌, map, get_or}
use Rattle.records.specs.declared.Setup.{Setup}
use Rattle.records.specs.declared.Peer.{Peer}
use Rattle.records.specs.declared.TopicRecord.{TopicRecord}
use Rattle.records.specs.Records.{State, slot_count, topic_count, param_count}
use Rattle.layout.specs.View.{place_count}
use Rattle.rows.specs.Rows.{span, rows, joins}

-- the regions, one after the other: the clock (cell 0), the joined flags, the codes of the parameters, the rest of the set-up, the peers,
-- the topic records
abbrev pub joined_at : ℕ
joined_at = 1

abbrev pub codes_at : ℕ
codes_at = joined_at + topic_count

abbrev pub setup_at : ℕ
setup_at = codes_at + param_count

abbrev pub setup_cells : ℕ
setup_cells = 1

abbrev pub peers_at : ℕ
peers_at = setup_at + setup_cells

abbrev pub peer_cells : ℕ
peer_cells = 20

abbrev pub topics_at : ℕ
topics_at = peers_at + slot_count * peer_cells

abbrev pub topic_cells : ℕ
topic_cells = 8

-- how many cells a table of the old form has: 21,661
abbrev pub rows_count : ℕ
rows_count = topics_at + place_count * topic_cells

-- the set-up of a run of cells, and its cells
unfoldable pub setup_of : List ℕ → Setup
setup_of r = record { edition = get_or r 0 0 }

unfoldable pub cells_of_setup : Setup → List ℕ
cells_of_setup u = u.edition ∷ []

-- the peer's record of a run of cells, and the cells of a peer's record
unfoldable pub peer_of : List ℕ → Peer
peer_of r =
    record {
      status = get_or r 0 0;
      id = get_or r 1 0;
      groups = record { first = get_or r 2 0; second = get_or r 3 0; third = get_or r 4 0; fourth = get_or r 5 0 };
      outbound = get_or r 6 0;
      explicit = get_or r 7 0;
      version = get_or r 8 0;
      p5 = get_or r 9 0;
      p7 = get_or r 10 0;
      retain = get_or r 11 0;
      backoff =
          get_or r 12 0 ∷ get_or r 13 0 ∷ get_or r 14 0 ∷ get_or r 15 0 ∷ get_or r 16 0 ∷ get_or r 17 0 ∷ get_or r 18 0 ∷ get_or r 19 0 ∷ [];
    }

unfoldable pub cells_of_peer : Peer → List ℕ
cells_of_peer p =
    p.status
    ∷ p.id
    ∷ p.groups.first
    ∷ p.groups.second
    ∷ p.groups.third
    ∷ p.groups.fourth
    ∷ p.outbound
    ∷ p.explicit
    ∷ p.version
    ∷ p.p5
    ∷ p.p7
    ∷ p.retain
    ∷ get_or p.backoff 0 0
    ∷ get_or p.backoff 1 0
    ∷ get_or p.backoff 2 0
    ∷ get_or p.backoff 3 0
    ∷ get_or p.backoff 4 0
    ∷ get_or p.backoff 5 0
    ∷ get_or p.backoff 6 0
    ∷ get_or p.backoff 7 0
    ∷ []

unfoldable pub topic_of : List ℕ → TopicRecord
topic_of r =
    record {
      p2 = get_or r 0 0;
      p3 = get_or r 1 0;
      p4 = get_or r 2 0;
      p3b = get_or r 3 0;
      subscribed = get_or r 4 0;
      member = get_or r 5 0;
      graft = get_or r 6 0;
      mesh = get_or r 7 0;
    }

unfoldable pub cells_of_topic : TopicRecord → List ℕ
cells_of_topic t =
    t.p2 ∷ t.p3 ∷ t.p4 ∷ t.p3b ∷ t.subscribed ∷ t.member ∷ t.graft ∷ t.mesh ∷ []

-- the same records, field by field from cell b on
abbrev pub peer_from : List ℕ → ℕ → Peer
peer_from cells b =
    record {
      status = get_or cells b 0;
      id = get_or cells (b + 1) 0;
      groups =
          record {
            first = get_or cells (b + 2) 0;
            second = get_or cells (b + 3) 0;
            third = get_or cells (b + 4) 0;
            fourth = get_or cells (b + 5) 0;
          };
      outbound = get_or cells (b + 6) 0;
      explicit = get_or cells (b + 7) 0;
      version = get_or cells (b + 8) 0;
      p5 = get_or cells (b + 9) 0;
      p7 = get_or cells (b + 10) 0;
      retain = get_or cells (b + 11) 0;
      backoff =
          get_or cells (b + 12) 0
          ∷ get_or cells (b + 13) 0
          ∷ get_or cells (b + 14) 0
          ∷ get_or cells (b + 15) 0
          ∷ get_or cells (b + 16) 0
          ∷ get_or cells (b + 17) 0
          ∷ get_or cells (b + 18) 0
          ∷ get_or cells (b + 19) 0
          ∷ [];
    }

abbrev pub topic_from : List ℕ → ℕ → TopicRecord
topic_from cells b =
    record {
      p2 = get_or cells b 0;
      p3 = get_or cells (b + 1) 0;
      p4 = get_or cells (b + 2) 0;
      p3b = get_or cells (b + 3) 0;
      subscribed = get_or cells (b + 4) 0;
      member = get_or cells (b + 5) 0;
      graft = get_or cells (b + 6) 0;
      mesh = get_or cells (b + 7) 0;
    }

-- the state that a table holds
unfoldable pub state_of_rows : List ℕ → State
state_of_rows cells =
    record {
      clock = get_or cells 0 0;
      joined = span cells joined_at topic_count;
      codes = span cells codes_at param_count;
      setup = setup_of (span cells setup_at setup_cells);
      peers = map peer_of (rows cells peers_at peer_cells slot_count);
      topics = map topic_of (rows cells topics_at topic_cells place_count);
    }

-- the cells that hold a state
unfoldable pub cells_of : State → List ℕ
cells_of st =
    (st.clock ∷ st.joined)
    ++ st.codes
    ++ cells_of_setup st.setup
    ++ joins cells_of_peer st.peers
    ++ joins cells_of_topic st.topics
