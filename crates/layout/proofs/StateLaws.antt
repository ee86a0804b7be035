-- Laws of the state alone: what each reader sees after each store, sizes, and stores that change nothing.
-- Assumes nothing.
use Prim.Native.Nat.{ℕ, zero, suc, ◌+◌, ◌*◌, ◌<◌}
use mathlib.Core.Path.{◌≡◌, refl, ap, ◌∙◌}
use mathlib.Core.Logic.{◌≢◌}
use mathlib.Core.List.{List}
use lib.ListN.{length, get_or, length-set}
use lib.Seq.{get_or-set_same, get_or-set_other, set-get_or}
use Rattle.index.proofs.Lists.{set_case}
use Rattle.records.specs.declared.Peer.{Peer}
use Rattle.records.specs.declared.TopicRecord.{TopicRecord}
use Rattle.records.specs.Records.{State, no_peer, no_topic, joined_in, code_in, peer_in, topic_in, set_clock, set_joined, set_peer, set_topic}
use Rattle.records.specs.Records.{slot_count, topic_count, param_count}
use Rattle.layout.specs.Rows.{tab}
use Rattle.layout.proofs.RowLaws.{length_tab}
use Rattle.layout.specs.View.{joined_at, ends_at, place_count, live_at, ends_of, peer_raw, peer_at, topic_at, code_at, table, state_of, Sized}

module _ (st : State) where
  -- ---- the place that was stored

  pub peer_same : (s : ℕ) (p : Peer) → s < length st.peers → peer_in (set_peer st s p) s ≡ p
  unfolding peer_in set_peer
  peer_same s p h = get_or-set_same st.peers s p no_peer h

  pub topic_same : (k : ℕ) (t : TopicRecord) → k < length st.topics → topic_in (set_topic st k t) k ≡ t
  unfolding topic_in set_topic
  topic_same k t h = get_or-set_same st.topics k t no_topic h

  -- ---- another place of the same kind

  pub peer_other : (s : ℕ) (p : Peer) (u : ℕ) → u ≢ s → peer_in (set_peer st s p) u ≡ peer_in st u
  unfolding peer_in set_peer
  peer_other s p u h = get_or-set_other st.peers s u p no_peer h

  pub topic_other : (k : ℕ) (t : TopicRecord) (j : ℕ) → j ≢ k → topic_in (set_topic st k t) j ≡ topic_in st j
  unfolding topic_in set_topic
  topic_other k t j h = get_or-set_other st.topics k j t no_topic h

  -- ---- what holds at every place after a store: of what was stored, and of what was there

  pub joined_case :
      (P : ℕ → Type 0) (t b u : ℕ) →
      (u ≡ t → P b) →
      P (joined_in st u) →
      P (joined_in (set_joined st t b) u)
  unfolding joined_in set_joined
  joined_case P t b u h o = set_case P st.joined t u b 0 h o

  pub peer_case :
      (P : Peer → Type 0) (s : ℕ) (p : Peer) (u : ℕ) →
      (u ≡ s → P p) →
      P (peer_in st u) →
      P (peer_in (set_peer st s p) u)
  unfolding peer_in set_peer
  peer_case P s p u h o = set_case P st.peers s u p no_peer h o

  pub topic_case :
      (P : TopicRecord → Type 0) (k : ℕ) (t : TopicRecord) (j : ℕ) →
      (j ≡ k → P t) →
      P (topic_in st j) →
      P (topic_in (set_topic st k t) j)
  unfolding topic_in set_topic
  topic_case P k t j h o = set_case P st.topics k j t no_topic h o

  -- ---- another kind of place: READER-after-STORE

  pub clock_after_peer : (s : ℕ) (p : Peer) → (set_peer st s p).clock ≡ st.clock
  unfolding set_peer
  clock_after_peer s p = refl

  pub codes_after_clock : (n : ℕ) → (set_clock st n).codes ≡ st.codes
  unfolding set_clock
  codes_after_clock n = refl

  pub codes_after_peer : (s : ℕ) (p : Peer) → (set_peer st s p).codes ≡ st.codes
  unfolding set_peer
  codes_after_peer s p = refl

  pub codes_after_topic : (k : ℕ) (t : TopicRecord) → (set_topic st k t).codes ≡ st.codes
  unfolding set_topic
  codes_after_topic k t = refl

  pub setup_after_clock : (n : ℕ) → (set_clock st n).setup ≡ st.setup
  unfolding set_clock
  setup_after_clock n = refl

  pub setup_after_peer : (s : ℕ) (p : Peer) → (set_peer st s p).setup ≡ st.setup
  unfolding set_peer
  setup_after_peer s p = refl

  pub setup_after_topic : (k : ℕ) (t : TopicRecord) → (set_topic st k t).setup ≡ st.setup
  unfolding set_topic
  setup_after_topic k t = refl

  pub joined_after_clock : (n : ℕ) (x : ℕ) → joined_in (set_clock st n) x ≡ joined_in st x
  unfolding joined_in set_clock
  joined_after_clock n x = refl

  pub joined_after_peer : (s : ℕ) (p : Peer) (x : ℕ) → joined_in (set_peer st s p) x ≡ joined_in st x
  unfolding joined_in set_peer
  joined_after_peer s p x = refl

  pub joined_after_topic : (k : ℕ) (t : TopicRecord) (x : ℕ) → joined_in (set_topic st k t) x ≡ joined_in st x
  unfolding joined_in set_topic
  joined_after_topic k t x = refl

  pub code_after_clock : (n : ℕ) (x : ℕ) → code_in (set_clock st n) x ≡ code_in st x
  unfolding code_in set_clock
  code_after_clock n x = refl

  pub code_after_peer : (s : ℕ) (p : Peer) (x : ℕ) → code_in (set_peer st s p) x ≡ code_in st x
  unfolding code_in set_peer
  code_after_peer s p x = refl

  pub code_after_topic : (k : ℕ) (t : TopicRecord) (x : ℕ) → code_in (set_topic st k t) x ≡ code_in st x
  unfolding code_in set_topic
  code_after_topic k t x = refl

  pub peer_after_clock : (n : ℕ) (x : ℕ) → peer_in (set_clock st n) x ≡ peer_in st x
  unfolding peer_in set_clock
  peer_after_clock n x = refl

  pub peer_after_joined : (t b : ℕ) (x : ℕ) → peer_in (set_joined st t b) x ≡ peer_in st x
  unfolding peer_in set_joined
  peer_after_joined t b x = refl

  pub peer_after_topic : (k : ℕ) (t : TopicRecord) (x : ℕ) → peer_in (set_topic st k t) x ≡ peer_in st x
  unfolding peer_in set_topic
  peer_after_topic k t x = refl

  pub topic_after_clock : (n : ℕ) (x : ℕ) → topic_in (set_clock st n) x ≡ topic_in st x
  unfolding topic_in set_clock
  topic_after_clock n x = refl

  pub topic_after_joined : (t b : ℕ) (x : ℕ) → topic_in (set_joined st t b) x ≡ topic_in st x
  unfolding topic_in set_joined
  topic_after_joined t b x = refl

  pub topic_after_peer : (s : ℕ) (p : Peer) (x : ℕ) → topic_in (set_peer st s p) x ≡ topic_in st x
  unfolding topic_in set_peer
  topic_after_peer s p x = refl

  -- ---- a store of what is there, and a second store

  pub topic_again : (k : ℕ) → set_topic st k (topic_in st k) ≡ st
  unfolding set_topic topic_in
  topic_again k =
      ap
      (λ (l : List TopicRecord). record
      { clock = st.clock; joined = st.joined; codes = st.codes; setup = st.setup; peers = st.peers; topics = l })
      (set-get_or st.topics k no_topic)

  pub peer_again : (s : ℕ) → set_peer st s (peer_in st s) ≡ st
  unfolding set_peer peer_in
  peer_again s =
      ap
      (λ (l : List Peer). record
      { clock = st.clock; joined = st.joined; codes = st.codes; setup = st.setup; peers = l; topics = st.topics })
      (set-get_or st.peers s no_peer)

  -- ---- sizes

  module _ (size : Sized st) where
    pub sized_clock : (n : ℕ) → Sized (set_clock st n)
    unfolding set_clock peer_in
    sized_clock n =
        record {
          joined = size.joined;
          codes = size.codes;
          peers = size.peers;
          topics = size.topics;
          ends = size.ends;
        }

    pub sized_joined : (t b : ℕ) → Sized (set_joined st t b)
    unfolding set_joined peer_in
    sized_joined t b =
        record {
          joined = length-set st.joined t b ∙ size.joined;
          codes = size.codes;
          peers = size.peers;
          topics = size.topics;
          ends = size.ends;
        }

    pub sized_peer : (s : ℕ) (p : Peer) → length p.backoff ≡ 8 → Sized (set_peer st s p)
    unfolding set_peer peer_in
    sized_peer s p e =
        record {
          joined = size.joined;
          codes = size.codes;
          peers = length-set st.peers s p ∙ size.peers;
          topics = size.topics;
          ends = λ u. set_case (λ (q : Peer). length q.backoff ≡ 8) st.peers s u p no_peer (λ h. e) (size.ends u);
        }

    pub sized_topic : (k : ℕ) (t : TopicRecord) → Sized (set_topic st k t)
    unfolding set_topic peer_in
    sized_topic k t =
        record {
          joined = size.joined;
          codes = size.codes;
          peers = size.peers;
          topics = length-set st.topics k t ∙ size.topics;
          ends = size.ends;
        }

-- a table's state has a table's sizes
ends_length : (c : List ℕ) (s : ℕ) → length (peer_at c s).backoff ≡ topic_count
unfolding peer_at peer_raw ends_of
ends_length c s = length_tab topic_count (λ t. live_at c s (ends_at + s * 8 + t))

tab_ends : (n : ℕ) (f : ℕ → Peer) (s : ℕ) → ((u : ℕ) → length (f u).backoff ≡ topic_count) → length (get_or (tab n f) s no_peer).backoff
    ≡ topic_count
tab_ends zero f s h = refl
tab_ends (suc n) f zero h = h zero
tab_ends (suc n) f (suc s) h = tab_ends n (λ k. f (suc k)) s (λ k. h (suc k))

length_table : {A : Type 0} (n : ℕ) (f : ℕ → A) → length (table n f) ≡ n
unfolding table
length_table n f = length_tab n f

table_ends : (c : List ℕ) (s : ℕ) → length (get_or (table slot_count (peer_at c)) s no_peer).backoff ≡ topic_count
unfolding table
table_ends c s = tab_ends slot_count (peer_at c) s (ends_length c)

pub sized_of : (cells : List ℕ) → Sized (state_of cells)
unfolding state_of peer_in
sized_of cells =
    record {
      joined = length_table topic_count (λ t. get_or cells (joined_at + t) 0);
      codes = length_table param_count (code_at cells);
      peers = length_table slot_count (peer_at cells);
      topics = length_table place_count (topic_at cells);
      ends = table_ends cells;
    }
