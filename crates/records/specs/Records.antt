-- What the router holds (01, first section), as the rules see it: records by slot and topic, never the layout of a table.
-- To be changed with the structs of src/lib.rt.
use Rattle.std.specs.Prelude.{ℕ, ◌+◌, ◌*◌, Bool, ◌||◌, List, [], ◌∷◌, get_or, set, eqb}
use Rattle.records.specs.declared.Setup.{Setup}
use Rattle.records.specs.declared.Groups.{Groups}
use Rattle.records.specs.declared.Peer.{Peer}
use Rattle.records.specs.declared.TopicRecord.{TopicRecord}

-- "64 peer slots (0 to 63) and 8 topics (0 to 7)" (01); "Slots rise to 256" (02, order 9)
abbrev pub slot_count : ℕ
slot_count = 256

abbrev pub topic_count : ℕ
topic_count = 8

-- how many numbers the parameters are (01's sheet)
abbrev pub param_count : ℕ
param_count = 147

-- the router's state: the clock, a flag for each joined topic, the codes of the parameters, the rest of the set-up, the peers by slot, and
-- their topic records, that of slot s and topic t at s * 8 + t
pub record State : Type 0 where
  pub clock : ℕ
  pub joined : List ℕ
  pub codes : List ℕ
  pub setup : Setup
  pub peers : List Peer
  pub topics : List TopicRecord

-- the empty records; "one to four different address groups (an empty one none [..])" (02, order 11)
abbrev pub no_groups : Groups
no_groups = record { first = 0; second = 0; third = 0; fourth = 0 }

abbrev pub no_peer : Peer
no_peer =
    record {
      status = 0;
      id = 0;
      groups = no_groups;
      outbound = 0;
      explicit = 0;
      version = 0;
      p5 = 0;
      p7 = 0;
      retain = 0;
      backoff = 0 ∷ 0 ∷ 0 ∷ 0 ∷ 0 ∷ 0 ∷ 0 ∷ 0 ∷ [];
    }

abbrev pub no_topic : TopicRecord
no_topic = record { p2 = 0; p3 = 0; p4 = 0; p3b = 0; subscribed = 0; member = 0; graft = 0; mesh = 0 }

-- whether a group is one of those that a record holds
unfoldable pub holds_group : Groups → ℕ → Bool
holds_group g group = eqb g.first group || eqb g.second group || eqb g.third group || eqb g.fourth group

-- what the calls read
abbrev pub place : ℕ → ℕ → ℕ
place s t = s * topic_count + t

unfoldable pub code_in : State → ℕ → ℕ
code_in st i = get_or st.codes i 0

unfoldable pub joined_in : State → ℕ → ℕ
joined_in st t = get_or st.joined t 0

unfoldable pub peer_in : State → ℕ → Peer
peer_in st s = get_or st.peers s no_peer

unfoldable pub topic_in : State → ℕ → TopicRecord
topic_in st k = get_or st.topics k no_topic

-- what the calls change
unfoldable pub set_clock : State → ℕ → State
set_clock st n =
    record { clock = n; joined = st.joined; codes = st.codes; setup = st.setup; peers = st.peers; topics = st.topics }

unfoldable pub set_joined : State → ℕ → ℕ → State
set_joined st t b =
    record {
      clock = st.clock;
      joined = set st.joined t b;
      codes = st.codes;
      setup = st.setup;
      peers = st.peers;
      topics = st.topics;
    }

unfoldable pub set_peer : State → ℕ → Peer → State
set_peer st s p =
    record {
      clock = st.clock;
      joined = st.joined;
      codes = st.codes;
      setup = st.setup;
      peers = set st.peers s p;
      topics = st.topics;
    }

unfoldable pub set_topic : State → ℕ → TopicRecord → State
set_topic st k t =
    record {
      clock = st.clock;
      joined = st.joined;
      codes = st.codes;
      setup = st.setup;
      peers = st.peers;
      topics = set st.topics k t;
    }

-- "A record is empty, connected, or retained after a disconnect."
abbrev pub is_empty : Peer → Bool
is_empty p = eqb p.status 0

abbrev pub is_connected : Peer → Bool
is_connected p = eqb p.status 1

abbrev pub is_retained : Peer → Bool
is_retained p = eqb p.status 2
