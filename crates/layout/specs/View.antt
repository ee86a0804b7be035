-- How one table of numbers holds the router's state: columns, packed cells, words by slot, a mark. The layout may be changed here and in
-- src/lib.rt; the rules above see the state alone.
-- No state reads the cells of a column or row from the mark on, the times of a non-member, the cells between two columns, and those that
-- are kept for later orders.
use Rattle.std.specs.Prelude.{ℕ, ◌+◌, ◌*◌, ◌-◌, ◌/◌, ◌%◌, ◌^◌, ◌≤◌, ◌<◌, Bool, cond, ◌&&◌, ◌||◌, ◌≡◌, ◌≢◌, List, length, get_or, set, replicate, eqb, leb, ltb}
use Rattle.std.specs.Int.Bits.{bit_and, bit_or}
use Rattle.records.specs.declared.Setup.{Setup}
use Rattle.records.specs.declared.Peer.{Peer}
use Rattle.records.specs.declared.TopicRecord.{TopicRecord}
use Rattle.records.specs.Records.{State, slot_count, topic_count, param_count, no_peer, no_topic, place, peer_in, topic_in}
use Rattle.layout.specs.Rows.{tab}

-- ---- the regions, one after the other

abbrev pub place_count : ℕ
place_count = slot_count * topic_count

-- a word by slot is so many cells, bit s % 64 of cell s / 64
abbrev pub word_cells : ℕ
word_cells = 4

-- how far apart two columns are: not a power of two, so that they fall into different sets of a cache
abbrev pub stride : ℕ
stride = 264

-- the head: the clock, the joined flags, the mark, the set-up; the rest is kept for the set-up numbers of later orders
abbrev pub clock_at : ℕ
clock_at = 0

abbrev pub joined_at : ℕ
joined_at = 1

abbrev pub used_at : ℕ
used_at = 9

abbrev pub setup_at : ℕ
setup_at = 10

-- the parameters: 19 general numbers, then each field's eight topics side by side
abbrev pub params_at : ℕ
params_at = 24

-- the peers: six words (connected, retained, explicit, outbound, two of the version), then seven columns (id, four groups, P5 and P7,
-- retain end), then the backoff ends by slot
abbrev pub peers_at : ℕ
peers_at = 176

abbrev pub id_at : ℕ
id_at = 200

abbrev pub column_count : ℕ
column_count = 7

abbrev pub groups_at : ℕ
groups_at = 464

abbrev pub p57_at : ℕ
p57_at = 1520

abbrev pub retain_at : ℕ
retain_at = 1784

abbrev pub ends_at : ℕ
ends_at = 2048

-- what the peers hold for the topics: words (subscribed and member of each topic), counters by topic, P3b by slot, times by topic
abbrev pub topics_at : ℕ
topics_at = 4096

abbrev pub member_at : ℕ
member_at = 4128

abbrev pub counters_at : ℕ
counters_at = 4160

abbrev pub p3b_at : ℕ
p3b_at = 6272

abbrev pub graft_at : ℕ
graft_at = 8320

abbrev pub mesh_at : ℕ
mesh_at = 10432

-- how many cells a table has
abbrev pub cell_count : ℕ
cell_count = 12544

-- ---- reading: a word's bit, a cell in use

-- bit s of the word that starts at cell o: 0 or 1
unfoldable pub bit_at : List ℕ → ℕ → ℕ → ℕ
bit_at c o s = get_or c (o + s / 64) 0 / 2 ^ (s % 64) % 2

-- the mark: slots from it on were never taken
abbrev pub used_of : List ℕ → ℕ
used_of c = get_or c used_at 0

abbrev pub keep : Bool → ℕ → ℕ
keep b x = cond b x 0

-- cell `at` of slot s: 0 from the mark on
unfoldable pub live_at : List ℕ → ℕ → ℕ → ℕ
live_at c s at = keep (ltb s (used_of c)) (get_or c at 0)

-- where the cells of place k stand: topic k % 8 of slot k / 8
abbrev pub counter_of : ℕ → ℕ
counter_of k = counters_at + k % 8 * stride + k / 8

abbrev pub graft_of : ℕ → ℕ
graft_of k = graft_at + k % 8 * stride + k / 8

abbrev pub mesh_of : ℕ → ℕ
mesh_of k = mesh_at + k % 8 * stride + k / 8

abbrev pub subscribed_word : ℕ → ℕ
subscribed_word k = topics_at + k % 8 * word_cells

abbrev pub member_word : ℕ → ℕ
member_word k = member_at + k % 8 * word_cells

-- ---- the records of what is read

-- P2, P3 and P4 in lanes of 21, 21 and 22 bits; the times of a non-member are 0
unfoldable pub topic_raw : (counters p3b subscribed member graft mesh : ℕ) → TopicRecord
topic_raw counters p3b subscribed member graft mesh =
    record {
      p2 = counters % 2097152;
      p3 = counters / 2097152 % 2097152;
      p4 = counters / 4398046511104;
      p3b = p3b;
      subscribed = subscribed;
      member = member;
      graft = keep (eqb member 1) graft;
      mesh = keep (eqb member 1) mesh;
    }

unfoldable pub topic_at : List ℕ → ℕ → TopicRecord
topic_at c k =
    topic_raw
    (live_at c (k / 8) (counter_of k))
    (live_at c (k / 8) (p3b_at + k))
    (bit_at c (subscribed_word k) (k / 8))
    (bit_at c (member_word k) (k / 8))
    (get_or c (graft_of k) 0)
    (get_or c (mesh_of k) 0)

-- P5 and P7 in lanes of 32 bits
unfoldable pub peer_raw : (connected retained explicit outbound low high id g1 g2 g3 g4 p57 retain : ℕ) → List ℕ → Peer
peer_raw connected retained explicit outbound low high id g1 g2 g3 g4 p57 retain ends =
    record {
      status = connected + 2 * retained;
      id = id;
      groups = record { first = g1; second = g2; third = g3; fourth = g4 };
      outbound = outbound;
      explicit = explicit;
      version = low + 2 * high;
      p5 = p57 % 4294967296;
      p7 = p57 / 4294967296;
      retain = retain;
      backoff = ends;
    }

-- column j of slot s
abbrev pub column_of : ℕ → ℕ → ℕ
column_of j s = id_at + j * stride + s

unfoldable pub ends_of : List ℕ → ℕ → List ℕ
ends_of c s = tab 8 (λ t. live_at c s (ends_at + s * 8 + t))

unfoldable pub peer_at : List ℕ → ℕ → Peer
peer_at c s =
    peer_raw
    (bit_at c peers_at s)
    (bit_at c (peers_at + 4) s)
    (bit_at c (peers_at + 8) s)
    (bit_at c (peers_at + 12) s)
    (bit_at c (peers_at + 16) s)
    (bit_at c (peers_at + 20) s)
    (live_at c s (column_of 0 s))
    (live_at c s (column_of 1 s))
    (live_at c s (column_of 2 s))
    (live_at c s (column_of 3 s))
    (live_at c s (column_of 4 s))
    (live_at c s (column_of 5 s))
    (live_at c s (column_of 6 s))
    (ends_of c s)

-- ---- the parameters: magnitudes, the sign by the field

-- the field of number i, and the fields of at most 0: three thresholds, w6, w7, and of a topic w3, w3b, w4
abbrev pub field_of : ℕ → ℕ
field_of i = cond (ltb i 19) i (19 + (i - 19) % 16)

unfoldable pub is_below : ℕ → Bool
is_below f = (leb 9 f && leb f 11) || eqb f 14 || eqb f 16 || eqb f 26 || eqb f 31 || eqb f 33

abbrev pub below : ℕ → Bool
below i = is_below (field_of i)

-- where number i stands
unfoldable pub param_place : ℕ → ℕ
param_place i = cond (ltb i 19) i (19 + (i - 19) % 16 * 8 + (i - 19) / 16)

-- the code of a number of this sign and this magnitude: 2n, or 2n - 1 below 0
unfoldable pub code_for : Bool → ℕ → ℕ
code_for b m = cond b (2 * m - 1) (2 * m)

unfoldable pub code_at : List ℕ → ℕ → ℕ
code_at c i = code_for (below i) (get_or c (params_at + param_place i) 0)

-- ---- the state

unfoldable pub table : {A : Type 0} → ℕ → (ℕ → A) → List A
table n f = tab n f

unfoldable pub setup_of : List ℕ → Setup
setup_of c = record { edition = get_or c setup_at 0 }

-- the state that a table holds
unfoldable pub state_of : List ℕ → State
state_of c =
    record {
      clock = get_or c clock_at 0;
      joined = table topic_count (λ t. get_or c (joined_at + t) 0);
      codes = table param_count (code_at c);
      setup = setup_of c;
      peers = table slot_count (peer_at c);
      topics = table place_count (topic_at c);
    }

-- ---- storing

-- w with bit s as v says
unfoldable pub with_bit : ℕ → ℕ → ℕ → ℕ
with_bit w s v = cond (eqb v 1) (bit_or w (2 ^ s)) (bit_and w (2 ^ 64 - 1 - 2 ^ s))

unfoldable pub set_bit : List ℕ → ℕ → ℕ → ℕ → List ℕ
set_bit c o s v = set c (o + s / 64) (with_bit (get_or c (o + s / 64) 0) (s % 64) v)

-- the six words of slot s
unfoldable pub set_flags : List ℕ → ℕ → (b0 b1 b2 b3 b4 b5 : ℕ) → List ℕ
set_flags c s b0 b1 b2 b3 b4 b5 =
    set_bit
    (set_bit
    (set_bit (set_bit (set_bit (set_bit c peers_at s b0) (peers_at + 4) s b1) (peers_at + 8) s b2) (peers_at + 12) s b3)
    (peers_at + 16)
    s
    b4)
    (peers_at + 20)
    s
    b5

-- the seven columns of slot s
unfoldable pub set_columns : List ℕ → ℕ → (v0 v1 v2 v3 v4 v5 v6 : ℕ) → List ℕ
set_columns c s v0 v1 v2 v3 v4 v5 v6 =
    set
    (set
    (set (set (set (set (set c (column_of 0 s) v0) (column_of 1 s) v1) (column_of 2 s) v2) (column_of 3 s) v3) (column_of 4 s) v4)
    (column_of 5 s)
    v5)
    (column_of 6 s)
    v6

-- what a packed record needs
pub record TopicFits (t : TopicRecord) : Type 0 where
  pub p2 : t.p2 < 2097152
  pub p3 : t.p3 < 2097152
  pub p4 : t.p4 < 4194304
  pub subscribed : t.subscribed ≤ 1
  pub member : t.member ≤ 1
  pub graft : t.member ≢ 1 → t.graft ≡ 0
  pub mesh : t.member ≢ 1 → t.mesh ≡ 0

pub record PeerFits (p : Peer) : Type 0 where
  pub status : p.status ≤ 3
  pub outbound : p.outbound ≤ 1
  pub explicit : p.explicit ≤ 1
  pub version : p.version ≤ 3
  pub p5 : p.p5 < 4294967296
  pub p7 : p.p7 < 4294967296

-- a record in which nothing is counted, and of no member
pub record Bare (t : TopicRecord) : Type 0 where
  pub p2 : t.p2 ≡ 0
  pub p3 : t.p3 ≡ 0
  pub p4 : t.p4 ≡ 0
  pub p3b : t.p3b ≡ 0
  pub member : t.member ≡ 0

-- the cells of its counters are 0
abbrev pub Uncounted : List ℕ → ℕ → ℕ → Type 0
Uncounted c s t = (live_at c s (counters_at + t * stride + s) ≡ 0) × (live_at c s (p3b_at + (s * 8 + t)) ≡ 0)

-- each code has its field's sign
pub record CodesFit (codes : List ℕ) : Type 0 where
  pub size : length codes ≡ param_count
  pub each : (i : ℕ) → i < param_count → code_for (below i) ((get_or codes i 0 + 1) / 2) ≡ get_or codes i 0

-- ---- what one bit changes in a record

unfoldable pub with_subscription : TopicRecord → ℕ → TopicRecord
with_subscription t v =
    record { p2 = t.p2; p3 = t.p3; p4 = t.p4; p3b = t.p3b; subscribed = v; member = t.member; graft = t.graft; mesh = t.mesh }

-- out of the mesh: the times go with the bit
unfoldable pub without_member : TopicRecord → TopicRecord
without_member t =
    record { p2 = t.p2; p3 = t.p3; p4 = t.p4; p3b = t.p3b; subscribed = t.subscribed; member = 0; graft = 0; mesh = 0 }

-- into the mesh at a time
unfoldable pub with_member : TopicRecord → ℕ → TopicRecord
with_member t time =
    record { p2 = t.p2; p3 = t.p3; p4 = t.p4; p3b = t.p3b; subscribed = t.subscribed; member = 1; graft = time; mesh = 0 }

-- ---- the mark

-- the cells of slot s are 0, those by topic up to topic n: what the mark may pass over
pub record ZeroUpTo (c : List ℕ) (s n : ℕ) : Type 0 where
  pub cell : (j : ℕ) → j < column_count → get_or c (column_of j s) 0 ≡ 0
  pub counters : (t : ℕ) → t < n → get_or c (counters_at + t * stride + s) 0 ≡ 0
  pub p3b : (t : ℕ) → t < n → get_or c (p3b_at + (s * 8 + t)) 0 ≡ 0
  pub ends : (t : ℕ) → t < n → get_or c (ends_at + s * 8 + t) 0 ≡ 0

-- another table of the same state and the same mark
pub record Idle (c d : List ℕ) : Type 0 where
  pub size : length d ≡ cell_count
  pub used : used_of d ≡ used_of c
  pub form : state_of d ≡ state_of c

-- from slot n on a record is its flags alone: one without a flag is empty
pub record FlagsFrom (st : State) (n : ℕ) : Type 0 where
  pub peer :
      (s : ℕ) →
      n ≤ s →
      s < slot_count →
      (peer_in st s).status ≡ 0 →
      (peer_in st s).explicit ≡ 0 →
      (peer_in st s).outbound ≡ 0 →
      (peer_in st s).version ≡ 0 →
      peer_in st s ≡ no_peer
  pub topic :
      (s t : ℕ) →
      n ≤ s →
      s < slot_count →
      t < topic_count →
      (topic_in st (place s t)).subscribed ≡ 0 →
      (topic_in st (place s t)).member ≡ 0 →
      topic_in st (place s t) ≡ no_topic

-- every record from slot n on is empty
pub record EmptyFrom (st : State) (n : ℕ) : Type 0 where
  pub peer : (s : ℕ) → n ≤ s → s < slot_count → peer_in st s ≡ no_peer
  pub topic : (s t : ℕ) → n ≤ s → s < slot_count → t < topic_count → topic_in st (place s t) ≡ no_topic

-- ---- what the stores make of a state

-- a peer's record with another backoff end for topic t
unfoldable pub set_end : Peer → ℕ → ℕ → Peer
set_end p t end =
    record {
      status = p.status;
      id = p.id;
      groups = p.groups;
      outbound = p.outbound;
      explicit = p.explicit;
      version = p.version;
      p5 = p.p5;
      p7 = p.p7;
      retain = p.retain;
      backoff = set p.backoff t end;
    }

-- another code of a parameter, other codes, another set-up: what making a fresh router writes
unfoldable pub set_code : State → ℕ → ℕ → State
set_code st i code =
    record {
      clock = st.clock;
      joined = st.joined;
      codes = set st.codes i code;
      setup = st.setup;
      peers = st.peers;
      topics = st.topics;
    }

unfoldable pub set_codes : State → List ℕ → State
set_codes st codes =
    record { clock = st.clock; joined = st.joined; codes = codes; setup = st.setup; peers = st.peers; topics = st.topics }

unfoldable pub set_setup : State → Setup → State
set_setup st u =
    record { clock = st.clock; joined = st.joined; codes = st.codes; setup = u; peers = st.peers; topics = st.topics }

-- the state of a table of zeros
unfoldable pub zero_state : State
zero_state =
    record {
      clock = 0;
      joined = replicate topic_count 0;
      codes = replicate param_count 0;
      setup = record { edition = 0 };
      peers = replicate slot_count no_peer;
      topics = replicate place_count no_topic;
    }

-- a state of a table's sizes
pub record Sized (st : State) : Type 0 where
  pub joined : length st.joined ≡ topic_count
  pub codes : length st.codes ≡ param_count
  pub peers : length st.peers ≡ slot_count
  pub topics : length st.topics ≡ place_count
  pub ends : (s : ℕ) → length (peer_in st s).backoff ≡ topic_count
