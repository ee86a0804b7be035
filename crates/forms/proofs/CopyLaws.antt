-- A copy of every part of a state is the state.
-- Assumes nothing.
use Prim.Native.Nat.{ℕ, zero, suc, ◌+◌, ◌*◌, ◌/◌, ◌%◌, ◌≤◌, ◌<◌}
use mathlib.Core.Path.{◌≡◌, refl, sym, ap, ◌∙◌, subst}
use mathlib.Core.Bool.{true}
use mathlib.Core.List.{List}
use native.Mathlib.Omega.{arith}
use lib.ListN.{length, get_or, set, replicate, length-set, get_or-replicate}
use lib.Seq.{get_or-set_same, get_or-set_other, ext_get_or}
use Rattle.index.specs.Index.{iter}
use Rattle.index.proofs.Flags.{by_order}
use Rattle.index.proofs.Index.{iter_none, iter_more, iter_done}
use Rattle.records.specs.declared.Peer.{Peer}
use Rattle.records.specs.declared.TopicRecord.{TopicRecord}
use Rattle.records.specs.Records.{State, no_topic, no_peer, place, code_in, joined_in, topic_in, peer_in, set_clock, set_joined, set_topic, set_peer}
use Rattle.records.specs.Records.{slot_count, topic_count, param_count}
use Rattle.varint.specs.Codes.{magnitude}
use Rattle.params.proofs.ParamLaws.{within}
use Rattle.layout.specs.View.{place_count, set_codes, set_setup, zero_state, Sized, EmptyFrom, TopicFits, PeerFits, CodesFit}
use Rattle.layout.proofs.CopyLaws.{copied, copied_all}
use Rattle.validity.specs.Valid.{valid}
use Rattle.validity.proofs.ValidLaws.{valid_facts, zero_is}
use Rattle.validity.proofs.FitLaws.{peer_fits, topic_fits}
use Rattle.validity.proofs.SignLaws.{codes_fit, size_small}
use Rattle.forms.specs.Turns.{copy_joined, copy_peers, copy_topics}

-- a state with other joined flags, peers, topic records
abbrev with_joined : State → List ℕ → State
with_joined u l =
    record { clock = u.clock; joined = l; codes = u.codes; setup = u.setup; peers = u.peers; topics = u.topics }

abbrev with_peers : State → List Peer → State
with_peers u l =
    record { clock = u.clock; joined = u.joined; codes = u.codes; setup = u.setup; peers = l; topics = u.topics }

abbrev with_topics : State → List TopicRecord → State
with_topics u l =
    record { clock = u.clock; joined = u.joined; codes = u.codes; setup = u.setup; peers = u.peers; topics = l }

joined_copied : (st u : State) (n : ℕ) → copy_joined n st u ≡ with_joined u (copied 0 st.joined u.joined n)
unfolding iter set_joined joined_in
joined_copied st u zero = refl
joined_copied st u (suc n) = ap (λ w. set_joined w n (joined_in st n)) (joined_copied st u n)

peers_copied : (st u : State) (n : ℕ) → copy_peers n st u ≡ with_peers u (copied no_peer st.peers u.peers n)
unfolding iter set_peer peer_in
peers_copied st u zero = refl
peers_copied st u (suc n) = ap (λ w. set_peer w n (peer_in st n)) (peers_copied st u n)

topics_copied : (st u : State) (n : ℕ) → copy_topics n st u ≡ with_topics u (copied no_topic st.topics u.topics n)
unfolding iter set_topic topic_in
topics_copied st u zero = refl
topics_copied st u (suc n) = ap (λ w. set_topic w n (topic_in st n)) (topics_copied st u n)

module _ (st u : State) (a : Sized st) (b : Sized u) where
  joined_all : copy_joined topic_count st u ≡ with_joined u st.joined
  joined_all =
      joined_copied st u topic_count ∙ ap (with_joined u) (copied_all 0 st.joined u.joined topic_count a.joined b.joined)

  peers_all : copy_peers slot_count st u ≡ with_peers u st.peers
  peers_all = peers_copied st u slot_count ∙ ap (with_peers u) (copied_all no_peer st.peers u.peers slot_count a.peers b.peers)

  topics_all : copy_topics place_count st u ≡ with_topics u st.topics
  topics_all =
      topics_copied st u place_count ∙ ap (with_topics u) (copied_all no_topic st.topics u.topics place_count a.topics b.topics)

peer_is : (st : State) (k : ℕ) → get_or st.peers k no_peer ≡ peer_in st k
unfolding peer_in
peer_is st k = refl

topic_is : (st : State) (k : ℕ) → get_or st.topics k no_topic ≡ topic_in st k
unfolding topic_in
topic_is st k = refl

-- ---- the first n entries of a list, where the others are the same already

length_copied : {A : Type 0} (d : A) (from l : List A) (n : ℕ) → length (copied d from l n) ≡ length l
unfolding iter
length_copied d from l zero = refl
length_copied d from l (suc n) = length-set (copied d from l n) n (get_or from n d) ∙ length_copied d from l n

copied_at :
    {A : Type 0} (d : A) (from l : List A) (n k : ℕ) →
    n ≤ length l →
    (n ≤ k → get_or l k d ≡ get_or from k d) →
    get_or (copied d from l n) k d ≡ get_or from k d
unfolding iter
copied_at d from l zero k b h = h (omega arith)
copied_at d from l (suc n) k b h =
    let z = length_copied d from l n in
    by_order (get_or (set (copied d from l n) n (get_or from n d)) k d ≡ get_or from k d) k n
    (λ (q : k < n). get_or-set_other (copied d from l n) n k (get_or from n d) d (λ e. omega arith)
    ∙ copied_at d from l n k (omega arith) (λ (w : n ≤ k). absurd (omega arith)))
    (λ (q : n ≤ k).
    by_order (get_or (set (copied d from l n) n (get_or from n d)) k d ≡ get_or from k d) n k
    (λ (w : n < k). get_or-set_other (copied d from l n) n k (get_or from n d) d (λ e. omega arith)
    ∙ copied_at d from l n k (omega arith) (λ x. h (omega arith)))
    (λ (w : k ≤ n).
    let e : k ≡ n = omega arith in
    rw e (get_or-set_same (copied d from l n) n (get_or from n d) d (omega arith))))

copied_rest :
    {A : Type 0} (d : A) (from l : List A) (n m : ℕ) →
    length from ≡ m →
    length l ≡ m →
    n ≤ m →
    ((k : ℕ) → n ≤ k → k < m → get_or l k d ≡ get_or from k d) →
    copied d from l n ≡ from
copied_rest d from l n m e f b h =
    let z = length_copied d from l n in
    ext_get_or d (copied d from l n) from (z ∙ f ∙ sym e) (λ k j. copied_at d from l n k (omega arith) (λ w. h k w (omega arith)))

-- ---- part by part, into a table of zeros: empty records are there already
module _ (st u : State) (n : ℕ) (a : Sized st) (b : Sized u) (low : n ≤ slot_count) (rest : EmptyFrom st n) where
  peers_rest : u.peers ≡ replicate slot_count no_peer → copy_peers n st u ≡ with_peers u st.peers
  peers_rest e =
      peers_copied st u n
      ∙ ap (with_peers u)
      (copied_rest no_peer st.peers u.peers n slot_count a.peers b.peers low
      (λ k l h. ap (λ (p : List Peer). get_or p k no_peer) e ∙ get_or-replicate slot_count k no_peer no_peer h ∙ sym (empty k l h)))
    where
      empty : (k : ℕ) → n ≤ k → k < slot_count → get_or st.peers k no_peer ≡ no_peer
      empty k l h = peer_is st k ∙ rest.peer k l h

  topics_rest : u.topics ≡ replicate place_count no_topic → copy_topics (n * topic_count) st u ≡ with_topics u st.topics
  topics_rest e =
      topics_copied st u (n * topic_count)
      ∙ ap (with_topics u)
      (copied_rest no_topic st.topics u.topics (n * topic_count) place_count a.topics b.topics (omega arith)
      (λ k l h. ap (λ (p : List TopicRecord). get_or p k no_topic) e ∙ get_or-replicate place_count k no_topic no_topic h ∙ sym (empty k l h)))
    where
      empty : (k : ℕ) → n * topic_count ≤ k → k < place_count → get_or st.topics k no_topic ≡ no_topic
      empty k l h =
          let w : k ≡ place (k / 8) (k % 8) = omega arith in
          topic_is st k ∙ ap (topic_in st) w ∙ rest.topic (k / 8) (k % 8) (omega arith) (omega arith) (omega arith)

pub all_from :
    (st u0 u1 u2 u3 u4 u5 u6 : State) (n : ℕ) →
    Sized st →
    Sized u1 →
    Sized u4 →
    Sized u5 →
    n ≤ slot_count →
    EmptyFrom st n →
    u0 ≡ zero_state →
    u1 ≡ set_clock u0 st.clock →
    u2 ≡ copy_joined topic_count st u1 →
    u3 ≡ set_codes u2 st.codes →
    u4 ≡ set_setup u3 st.setup →
    u5 ≡ copy_peers n st u4 →
    u6 ≡ copy_topics (n * topic_count) st u5 →
    u6 ≡ st
unfolding set_clock set_codes set_setup zero_state
all_from st u0 u1 u2 u3 u4 u5 u6 n z z1 z4 z5 low rest e0 e1 e2 e3 e4 e5 e6 =
    let f1 : u1 ≡ set_clock zero_state st.clock = e1 ∙ ap (λ (w : State). set_clock w st.clock) e0 in
    let f4 : u4
    ≡ record {
      clock = st.clock;
      joined = st.joined;
      codes = st.codes;
      setup = st.setup;
      peers = replicate slot_count no_peer;
      topics = replicate place_count no_topic;
    } =
    e4
    ∙ ap (λ (w : State). set_setup w st.setup)
    (e3 ∙ ap (λ (w : State). set_codes w st.codes) (e2 ∙ joined_all st u1 z z1 ∙ ap (λ (w : State). with_joined w st.joined) f1)) in
    let f5 : u5
    ≡ record {
      clock = st.clock;
      joined = st.joined;
      codes = st.codes;
      setup = st.setup;
      peers = st.peers;
      topics = replicate place_count no_topic;
    } =
    e5 ∙ peers_rest st u4 n z z4 low rest (ap (λ (w : State). w.peers) f4) ∙ ap (λ (w : State). with_peers w st.peers) f4 in
    e6
    ∙ topics_rest st u5 n z z5 low rest (ap (λ (w : State). w.topics) f5)
    ∙ ap (λ (w : State). with_topics w st.topics) f5

-- ---- part by part, whatever stood there
pub all_copied :
    (st u0 u1 u2 u3 u4 u5 u6 : State) →
    Sized st →
    Sized u1 →
    Sized u4 →
    Sized u5 →
    u1 ≡ set_clock u0 st.clock →
    u2 ≡ copy_joined topic_count st u1 →
    u3 ≡ set_codes u2 st.codes →
    u4 ≡ set_setup u3 st.setup →
    u5 ≡ copy_peers slot_count st u4 →
    u6 ≡ copy_topics place_count st u5 →
    u6 ≡ st
unfolding set_clock set_codes set_setup
all_copied st u0 u1 u2 u3 u4 u5 u6 z z1 z4 z5 e1 e2 e3 e4 e5 e6 =
    e6 ∙ topics_all st u5 z z5
    ∙ ap (λ (w : State). with_topics w st.topics)
    (e5 ∙ peers_all st u4 z z4
    ∙ ap (λ (w : State). with_peers w st.peers)
    (e4
    ∙ ap (λ (w : State). set_setup w st.setup)
    (e3
    ∙ ap (λ (w : State). set_codes w st.codes)
    (e2 ∙ joined_all st u1 z z1 ∙ ap (λ (w : State). with_joined w st.joined) e1))))

-- ---- a router's records fit
module _ (st : State) (ok : valid st ≡ true) where
  pub peer_fit : (s : ℕ) (p : Peer) → s < slot_count → p ≡ peer_in st s → PeerFits p
  peer_fit s p h e = rw e (peer_fits st ok s h)

  pub topic_fit : (k : ℕ) (t : TopicRecord) → k < place_count → t ≡ topic_in st k → TopicFits t
  topic_fit k t h e =
      let w : place (k / 8) (k % 8) ≡ k = omega arith in
      rw e (subst (λ (n : ℕ). TopicFits (topic_in st n)) w (topic_fits st ok (k / 8) (k % 8) (omega arith) (omega arith)))

  pub codes_fit_in : (codes : List ℕ) → Sized st → codes ≡ st.codes → CodesFit codes
  codes_fit_in codes z e = rw e (codes_fit st.codes z.codes (within st.codes (valid_facts st ok).params))

  pub code_small : (i : ℕ) → i < param_count → magnitude (code_in st i) < 4611686018427387904
  unfolding code_in
  code_small i h = let l = size_small st.codes (within st.codes (valid_facts st ok).params) i h in omega arith

  pub empty_last : EmptyFrom st slot_count
  empty_last = record { peer = λ s l h. absurd (omega arith); topic = λ s t l h k. absurd (omega arith) }

  -- a record without an id is empty, and so is what it holds for the topics
  no_id : (s : ℕ) → s < slot_count → (peer_in st s).id ≡ 0 → (peer_in st s).status ≡ 0
  no_id s h e =
      let f = (valid_facts st ok).peer s h in
      by_order ((peer_in st s).status ≡ 0) (peer_in st s).status 1 (λ (l : (peer_in st s).status < 1). omega arith)
      (λ (l : 1 ≤ (peer_in st s).status). absurd (let u = f.used (λ z. omega arith) in omega arith))

  pub empty_more : (n : ℕ) → Sized st → n < slot_count → EmptyFrom st (n + 1) → (peer_in st n).id ≡ 0 → EmptyFrom st n
  empty_more n z h e d =
      let f = valid_facts st ok in
      let q = no_id n h d in
      record {
        peer = λ s l b. by_order (peer_in st s ≡ no_peer) n s (λ (w : n < s). e.peer s (omega arith) b)
            (λ (w : s ≤ n).
            let a : s ≡ n = omega arith in
            rw a (zero_is (peer_in st n) ((f.peer n h).empty q) q (z.ends n)));
        topic = λ s t l b k. by_order (topic_in st (place s t) ≡ no_topic) n s (λ (w : n < s). e.topic s t (omega arith) b k)
            (λ (w : s ≤ n).
            let a : s ≡ n = omega arith in
            rw a ((f.topic n t h k).empty q));
      }

-- ---- a loop that copies
module _ (st u : State) where
  pub joined_start : u ≡ copy_joined 0 st u
  joined_start = sym (iter_none (λ t w. set_joined w t (joined_in st t)) u)

  pub joined_more :
      (w v : State) (t x : ℕ) → w ≡ copy_joined t st u → v ≡ set_joined w t x → x ≡ joined_in st t → v ≡ copy_joined (t + 1) st u
  joined_more w v t x p q e = iter_more (λ j y. set_joined y j (joined_in st j)) u t w v p (q ∙ ap (set_joined w t) e)

  pub joined_end : (w : State) (t n : ℕ) → t ≤ n → n ≤ t → w ≡ copy_joined t st u → w ≡ copy_joined n st u
  joined_end w t n l h p = iter_done (λ j y. set_joined y j (joined_in st j)) u n t w l h p

  pub peers_start : u ≡ copy_peers 0 st u
  peers_start = sym (iter_none (λ s w. set_peer w s (peer_in st s)) u)

  pub peers_more :
      (w v : State) (s : ℕ) (x : Peer) → w ≡ copy_peers s st u → v ≡ set_peer w s x → x ≡ peer_in st s → v ≡ copy_peers (s + 1) st u
  peers_more w v s x p q e = iter_more (λ j y. set_peer y j (peer_in st j)) u s w v p (q ∙ ap (set_peer w s) e)

  pub peers_end : (w : State) (s n : ℕ) → s ≤ n → n ≤ s → w ≡ copy_peers s st u → w ≡ copy_peers n st u
  peers_end w s n l h p = iter_done (λ j y. set_peer y j (peer_in st j)) u n s w l h p

  pub topics_start : u ≡ copy_topics 0 st u
  topics_start = sym (iter_none (λ k w. set_topic w k (topic_in st k)) u)

  pub topics_more :
      (w v : State) (k : ℕ) (x : TopicRecord) → w ≡ copy_topics k st u → v ≡ set_topic w k x → x ≡ topic_in st k → v ≡ copy_topics (k + 1) st u
  topics_more w v k x p q e = iter_more (λ j y. set_topic y j (topic_in st j)) u k w v p (q ∙ ap (set_topic w k) e)

  pub topics_end : (w : State) (k n : ℕ) → k ≤ n → n ≤ k → w ≡ copy_topics k st u → w ≡ copy_topics n st u
  topics_end w k n l h p = iter_done (λ j y. set_topic y j (topic_in st j)) u n k w l h p
