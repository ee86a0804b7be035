-- Storing all records in a fresh router with the load's clock gives the loaded router: slot by slot, field by field.
-- Assumes nothing.
use Prim.Native.Nat.{ℕ, zero, suc, ◌+◌, ◌*◌, ◌/◌, ◌%◌, ◌<◌, ◌≤◌}
use native.Mathlib.Omega.{arith}
use mathlib.Core.Path.{◌≡◌, refl, sym, ap, ◌∙◌}
use mathlib.Core.Bool.{cond}
use mathlib.Core.List.{List, map}
use borrow.Author.Tests.{lt-ltb, le-ltb}
use lib.Dec.{ltb}
use lib.ListN.{length, get_or, set, replicate, length-set, length-replicate, get_or-replicate}
use lib.Seq.{get_or-set_same, get_or-set_other, ext_get_or}
use Rattle.index.specs.Index.{iter}
use Rattle.index.proofs.Flags.{by_order}
use Rattle.varint.specs.Codes.{code_of}
use Rattle.params.specs.declared.Params.{Params}
use Rattle.records.specs.declared.Peer.{Peer}
use Rattle.records.specs.declared.TopicRecord.{TopicRecord}
use Rattle.records.specs.Records.{State, slot_count, topic_count, place, no_peer, no_topic, set_clock, set_peer, set_topic}
use Rattle.layout.specs.Rows.{tab}
use Rattle.layout.specs.View.{place_count}
use Rattle.layout.proofs.RowLaws.{length_tab, get_or_tab}
use Rattle.lookup.specs.Fresh.{setup_of, fresh_state}
use Rattle.saves.specs.Load.{loaded_peer, loaded_topic, row_at, loaded_state}
use Rattle.save_load.specs.Store.{stored_topic, stored, stored_all}

-- ---- the topics of one record
module _ (row : List ℕ) (s : ℕ) (st : State) where
  abbrev walk : ℕ → State
  walk j = iter j (stored_topic row s) st

  record Rest (u : State) : Type 0 where
    clock : u.clock ≡ st.clock
    joined : u.joined ≡ st.joined
    codes : u.codes ≡ st.codes
    setup : u.setup ≡ st.setup
    peers : u.peers ≡ st.peers
    long : length u.topics ≡ length st.topics

  rest : (j : ℕ) → Rest (walk j)
  unfolding iter stored_topic set_topic
  rest zero = record { clock = refl; joined = refl; codes = refl; setup = refl; peers = refl; long = refl }
  rest (suc j) =
      let r = rest j in
      record {
        clock = r.clock;
        joined = r.joined;
        codes = r.codes;
        setup = r.setup;
        peers = r.peers;
        long = length-set (walk j).topics (place s j) (loaded_topic row j) ∙ r.long;
      }

  -- a topic that was stored
  hit : (j t : ℕ) → t < j → s * 8 + j ≤ length st.topics → get_or (walk j).topics (place s t) no_topic ≡ loaded_topic row t
  unfolding iter stored_topic set_topic
  hit zero t h b = absurd (omega arith)
  hit (suc j) t h b =
      let n = (rest j).long in
      by_order (get_or (set (walk j).topics (place s j) (loaded_topic row j)) (place s t) no_topic ≡ loaded_topic row t) t j
      (λ l.
      get_or-set_other (walk j).topics (place s j) (place s t) (loaded_topic row j) no_topic (λ e. omega arith) ∙ hit j t l (omega arith))
      (λ l.
      let e : t ≡ j = omega arith in
      rw e (get_or-set_same (walk j).topics (place s j) (loaded_topic row j) no_topic (omega arith)))

  -- one of another slot
  miss : (j i : ℕ) → j ≤ 8 → (i / 8 ≡ s → ⊥) → get_or (walk j).topics i no_topic ≡ get_or st.topics i no_topic
  unfolding iter stored_topic set_topic
  miss zero i h n = refl
  miss (suc j) i h n =
      get_or-set_other (walk j).topics (place s j) i (loaded_topic row j) no_topic (λ e. n (omega arith)) ∙ miss j i (omega arith) n

-- ---- all records
module _ (p : Params) (clock : ℕ) (l : List ℕ) where
  abbrev u : ℕ → State
  u k = stored_all clock k l (set_clock (fresh_state p) clock)

  abbrev peer_at : ℕ → ℕ → Peer
  peer_at k s = cond (ltb s k) (loaded_peer clock (row_at l s)) no_peer

  abbrev topic_at : ℕ → ℕ → TopicRecord
  topic_at k i = cond (ltb (i / 8) k) (loaded_topic (row_at l (i / 8)) (i % 8)) no_topic

  record So (k : ℕ) (v : State) : Type 0 where
    clock_is : v.clock ≡ clock
    joined : v.joined ≡ replicate topic_count 0
    codes : v.codes ≡ map code_of p.numbers
    setup : v.setup ≡ setup_of p
    many : length v.peers ≡ slot_count
    places : length v.topics ≡ place_count
    peers : (s : ℕ) → s < slot_count → get_or v.peers s no_peer ≡ peer_at k s
    topics : (i : ℕ) → i < place_count → get_or v.topics i no_topic ≡ topic_at k i

  so_none : So 0 (u 0)
  unfolding iter set_clock fresh_state
  so_none =
      record {
        clock_is = refl;
        joined = refl;
        codes = refl;
        setup = refl;
        many = length-replicate slot_count no_peer;
        places = length-replicate place_count no_topic;
        peers = λ s h. get_or-replicate slot_count s no_peer no_peer h ∙ sym (rw (le-ltb s 0 (omega arith)));
        topics = λ i h. get_or-replicate place_count i no_topic no_topic h ∙ sym (rw (le-ltb (i / 8) 0 (omega arith)));
      }

  module _ (k : ℕ) (v : State) (h : k < slot_count) (f : So k v) where
    abbrev row : List ℕ
    row = row_at l k

    r : Rest row k v (walk row k v 8)
    r = rest row k v 8

    peers_more : (s : ℕ) → s < slot_count → get_or (set (walk row k v 8).peers k (loaded_peer clock row)) s no_peer ≡ peer_at (suc k) s
    peers_more s b =
        let n = f.many in
        let q = ap length r.peers in
        by_order (get_or (set (walk row k v 8).peers k (loaded_peer clock row)) s no_peer ≡ peer_at (suc k) s) s k
        (λ c.
        get_or-set_other (walk row k v 8).peers k s (loaded_peer clock row) no_peer (λ e. omega arith)
        ∙ ap (λ (m : List Peer). get_or m s no_peer) r.peers
        ∙ f.peers s b
        ∙ rw (lt-ltb s k c, lt-ltb s (suc k) (omega arith)))
        (λ c.
        by_order (get_or (set (walk row k v 8).peers k (loaded_peer clock row)) s no_peer ≡ peer_at (suc k) s) k s
        (λ d.
        get_or-set_other (walk row k v 8).peers k s (loaded_peer clock row) no_peer (λ e. omega arith)
        ∙ ap (λ (m : List Peer). get_or m s no_peer) r.peers
        ∙ f.peers s b
        ∙ rw (le-ltb s k c, le-ltb s (suc k) d))
        (λ d.
        let e : s ≡ k = omega arith in
        rw (e, lt-ltb k (suc k) (omega arith)) (get_or-set_same (walk row k v 8).peers k (loaded_peer clock row) no_peer (omega arith))))

    topics_more : (i : ℕ) → i < place_count → get_or (walk row k v 8).topics i no_topic ≡ topic_at (suc k) i
    topics_more i b =
        let n = f.places in
        by_order (get_or (walk row k v 8).topics i no_topic ≡ topic_at (suc k) i) (i / 8) k
        (λ c.
        miss row k v 8 i (omega arith) (λ e. omega arith)
        ∙ f.topics i b
        ∙ rw (lt-ltb (i / 8) k c, lt-ltb (i / 8) (suc k) (omega arith)))
        (λ c.
        by_order (get_or (walk row k v 8).topics i no_topic ≡ topic_at (suc k) i) k (i / 8)
        (λ d.
        miss row k v 8 i (omega arith) (λ e. omega arith)
        ∙ f.topics i b
        ∙ rw (le-ltb (i / 8) k c, le-ltb (i / 8) (suc k) d))
        (λ d.
        let e : i / 8 ≡ k = omega arith in
        let z : i ≡ k * 8 + i % 8 = omega arith in
        ap (λ (m : ℕ). get_or (walk row k v 8).topics m no_topic) z
        ∙ hit row k v 8 (i % 8) (omega arith) (omega arith)
        ∙ sym (rw (e, lt-ltb k (suc k) (omega arith)))))

    so_more : So (suc k) (stored clock row k v)
    unfolding stored set_peer
    so_more =
        record {
          clock_is = r.clock ∙ f.clock_is;
          joined = r.joined ∙ f.joined;
          codes = r.codes ∙ f.codes;
          setup = r.setup ∙ f.setup;
          many = length-set (walk row k v 8).peers k (loaded_peer clock row) ∙ ap length r.peers ∙ f.many;
          places = r.long ∙ f.places;
          peers = peers_more;
          topics = topics_more;
        }

  so : (n : ℕ) → n ≤ slot_count → So n (u n)
  unfolding iter
  so zero h = so_none
  so (suc n) h = so_more n (u n) h (so n (omega arith))

  made : (n : ℕ) (v : State) → So n v → v ≡ loaded_state p clock n l
  unfolding loaded_state
  made n v f =
      let a : v.peers ≡ tab slot_count (peer_at n) =
      ext_get_or no_peer v.peers (tab slot_count (peer_at n)) (f.many ∙ sym (length_tab slot_count (peer_at n))) (λ s b.
      let m = f.many in
      f.peers s (omega arith) ∙ sym (get_or_tab slot_count (peer_at n) s no_peer (omega arith))) in
      let b : v.topics ≡ tab place_count (topic_at n) =
      ext_get_or no_topic v.topics (tab place_count (topic_at n)) (f.places ∙ sym (length_tab place_count (topic_at n))) (λ i b.
      let m = f.places in
      f.topics i (omega arith) ∙ sym (get_or_tab place_count (topic_at n) i no_topic (omega arith))) in
      λ i. record {
        clock = f.clock_is i;
        joined = f.joined i;
        codes = f.codes i;
        setup = f.setup i;
        peers = a i;
        topics = b i;
      }

  pub all_stored : (n : ℕ) → n ≤ slot_count → stored_all clock n l (set_clock (fresh_state p) clock) ≡ loaded_state p clock n l
  all_stored n h = made n (u n) (so n h)
