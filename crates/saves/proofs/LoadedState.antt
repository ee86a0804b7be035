-- A loaded router: what stands in each slot, and that it is a router's.
-- Assumes nothing.
use Rattle.std.proofs.Common.{None}
use Prim.Native.Nat.{ℕ, zero, suc, ◌+◌, ◌*◌, ◌-◌, ◌/◌, ◌%◌, ◌<◌, ◌≤◌}
use native.Mathlib.Omega.{arith}
use mathlib.Core.Path.{◌≡◌, refl, ap, ◌∙◌}
use mathlib.Core.Bool.{true, false, cond}
use mathlib.Core.List.{List, [], ◌∷◌}
use borrow.Author.Tests.{leb-true, lt-ltb, le-ltb, eq-eqb, ltb-true, ltb-false, not-false}
use lib.Dec.{eqb, leb, ltb}
use Rattle.params.specs.declared.Params.{Params}
use lib.ListN.{length, get_or, replicate, length-map, length-replicate, get_or-replicate, get_or-eq_default}
use lib.Seq.{get_or-append-add}
use Rattle.index.specs.Index.{first, gather}
use Rattle.index.proofs.Index.{both, first_passed}
use Rattle.index.proofs.Flags.{by_order, cond_case}
use Rattle.varint.specs.Codes.{code_of}
use Rattle.params.specs.Check.{first_broken}
use Rattle.params.proofs.ParamLaws.{Accepts}
use Rattle.records.specs.declared.Peer.{Peer}
use Rattle.records.specs.Records.{State, slot_count, topic_count, param_count, place, no_peer, no_topic, joined_in, peer_in, topic_in}
use Rattle.layout.specs.Rows.{tab}
use Rattle.layout.specs.View.{place_count, Sized}
use Rattle.layout.proofs.RowLaws.{length_tab, get_or_tab}
use Rattle.rows.proofs.RowLaws.{get_or_span}
use Rattle.validity.specs.Valid.{max_time, max_id, rising_ok, cap2, cap3, valid}
use Rattle.validity.proofs.ValidLaws.{PeerFacts, TopicFacts, Facts, FitsAt, no_peer_lem, no_topic_lem, valid_facts, facts_valid}
use Rattle.lookup.specs.Fresh.{fresh_state}
use Rattle.lookup.proofs.FreshLaws.{fresh_valid}
use Rattle.saves.specs.Save.{row_size}
use Rattle.saves.specs.Load.{most_retain, most_backoff, most_of, prior, ascends, outside, end_from, loaded_peer, loaded_topic, row_at}
use Rattle.saves.specs.Load.{loaded_state}
use Rattle.saves.proofs.Lists.{get_or_gather}
use Rattle.saves.proofs.Rows.{cap2_same, cap3_same}

-- ---- what stands in each slot
module _ (params : Params) (clock n : ℕ) (l : List ℕ) where
  abbrev pub made : State
  made = loaded_state params clock n l

  pub loaded_peer_lem : (s : ℕ) → s < slot_count → peer_in made s ≡ cond (ltb s n) (loaded_peer clock (row_at l s)) no_peer
  unfolding peer_in loaded_state
  loaded_peer_lem s h = get_or_tab slot_count (λ k. cond (ltb k n) (loaded_peer clock (row_at l k)) no_peer) s no_peer h

  pub loaded_topic_lem :
      (s t : ℕ) → s < slot_count → t < topic_count → topic_in made (place s t) ≡ cond (ltb s n) (loaded_topic (row_at l s) t) no_topic
  unfolding topic_in loaded_state
  loaded_topic_lem s t h k =
      let q : (s * 8 + t) / 8 ≡ s = omega arith in
      let r : (s * 8 + t) % 8 ≡ t = omega arith in
      get_or_tab place_count (λ i. cond (ltb (i / topic_count) n) (loaded_topic (row_at l (i / topic_count)) (i % topic_count)) no_topic)
      (place s t) no_topic (omega arith)
      ∙ ap (λ (i : ℕ). cond (ltb i n) (loaded_topic (row_at l i) ((s * 8 + t) % 8)) no_topic) q
      ∙ ap (λ (i : ℕ). cond (ltb s n) (loaded_topic (row_at l s) i) no_topic) r

  pub loaded_joined : (t : ℕ) → joined_in made t ≡ 0
  unfolding joined_in loaded_state
  loaded_joined t =
      by_order (get_or (replicate 8 0) t 0 ≡ 0) t 8 (λ (h : t < topic_count). get_or-replicate 8 t 0 0 h) (λ (h : 8 ≤ t).
      get_or-eq_default (replicate 8 0) 0 {n = t} (rw length-replicate h))

  ends_full : (s : ℕ) → length (loaded_peer clock (row_at l s)).backoff ≡ 8
  unfolding loaded_peer
  ends_full s = length_tab 8 (λ t. end_from clock (get_or (row_at l s) (8 + t * 5) 0))

  beyond : (s : ℕ) → slot_count ≤ s → peer_in made s ≡ no_peer
  unfolding peer_in loaded_state
  beyond s h =
      get_or-eq_default (tab slot_count (λ k. cond (ltb k n) (loaded_peer clock (row_at l k)) no_peer)) no_peer {n = s}
      (rw (length_tab slot_count (λ k. cond (ltb k n) (loaded_peer clock (row_at l k)) no_peer)) h)

  loaded_ends : (s : ℕ) → length (peer_in made s).backoff ≡ topic_count
  loaded_ends s =
      by_order (length (peer_in made s).backoff ≡ topic_count) s slot_count
      (λ h.
      rw (loaded_peer_lem s h)
      (cond_case (λ (p : Peer). length p.backoff ≡ 8) (ltb s n) (loaded_peer clock (row_at l s)) no_peer
      (λ e. ends_full s) (λ e. refl)))
      (λ h. ap (λ (p : Peer). length p.backoff) (beyond s h))

  pub loaded_sized : length params.numbers ≡ param_count → Sized made
  unfolding loaded_state
  loaded_sized e =
      record {
        joined = length-replicate {A = ℕ} 8 0;
        codes = length-map params.numbers code_of ∙ e;
        peers = length_tab slot_count (λ k. cond (ltb k n) (loaded_peer clock (row_at l k)) no_peer);
        topics = length_tab place_count
            (λ i. cond (ltb (i / topic_count) n) (loaded_topic (row_at l (i / topic_count)) (i % topic_count)) no_topic);
        ends = loaded_ends;
      }

-- ---- numbers that passed the ranges
most_topic :
    (st : State) (t i : ℕ) →
    t < 8 →
    i < 5 →
    get_or (most_of st) (4 + (t * 5 + i)) 0 ≡ get_or (cap2 st t ∷ cap3 st t ∷ 1000000000000 ∷ 1000000 ∷ most_backoff ∷ []) i 0
unfolding most_of
most_topic st t i h b =
    get_or-append-add (max_id ∷ most_retain ∷ 2000000000 ∷ 1000000 ∷ [])
    (gather 8 (λ k. cap2 st k ∷ cap3 st k ∷ 1000000000000 ∷ 1000000 ∷ most_backoff ∷ [])) (t * 5 + i) 0
    ∙ get_or_gather (λ k. cap2 st k ∷ cap3 st k ∷ 1000000000000 ∷ 1000000 ∷ most_backoff ∷ []) 5 (λ k. refl) 8 t i h b

module _
    (params : Params)
    (size : length params.numbers ≡ param_count)
    (ok : first_broken params ≡ None)
    (clock : ℕ)
    (early : clock ≤ max_time)
    (n : ℕ)
    (few : n ≤ slot_count)
    (l : List ℕ)
    (pass : first (n * row_size) (outside (most_of (fresh_state params)) l) ≡ None)
  where
    abbrev fresh : State
    fresh = fresh_state params

    abbrev st : State
    st = loaded_state params clock n l

    passed : (i : ℕ) → i < n * 44 → (ascends l i ≡ true) × (get_or l i 0 ≤ get_or (most_of fresh) (i % 44) 0)
    unfolding outside
    passed i h =
        let q =
        both (ascends l i) (leb (get_or l i 0) (get_or (most_of fresh) (i % 44) 0))
        (not-false _ (first_passed (outside (most_of fresh) l) (n * 44) pass i h)) in
        (q.0, leb-true (get_or l i 0) (get_or (most_of fresh) (i % 44) 0) q.1)

    field_most : (k j : ℕ) → k < n → j < 44 → get_or (row_at l k) j 0 ≤ get_or (most_of fresh) j 0
    field_most k j h b =
        let m : (k * 44 + j) % 44 ≡ j = omega arith in
        rw (get_or_span l (k * 44) 44 j b) (rw m at (passed (k * 44 + j) (omega arith)).1)

    topic_most :
        (k t i j : ℕ) →
        k < n →
        t < 8 →
        i < 5 →
        j ≡ 4 + (t * 5 + i) →
        get_or (row_at l k) j 0 ≤ get_or (cap2 fresh t ∷ cap3 fresh t ∷ 1000000000000 ∷ 1000000 ∷ most_backoff ∷ []) i 0
    topic_most k t i j h b c e =
        rw (e, ← most_topic fresh t i b c) (field_most k (4 + (t * 5 + i)) h (omega arith))

    -- ---- the ids
    abbrev pub id_of : ℕ → ℕ
    id_of k = get_or (row_at l k) 0 0

    id_is : (k : ℕ) → id_of k ≡ get_or l (k * 44) 0
    id_is k = get_or_span l (k * 44) 44 0 (omega arith) ∙ ap (λ (i : ℕ). get_or l i 0) (omega arith)

    above : (k : ℕ) → k < n → prior l (k * 44) < id_of k
    unfolding ascends
    above k h =
        let z : k * 44 % 44 ≡ 0 = omega arith in
        let a : ltb (prior l (k * 44)) (get_or l (k * 44) 0) ≡ true = rw (eq-eqb (k * 44 % 44) 0 z) at (passed (k * 44) (omega arith)).0 in
        rw (id_is k) (ltb-true (prior l (k * 44)) (get_or l (k * 44) 0) a)

    pub id_next : (k : ℕ) → suc k < n → id_of k < id_of (suc k)
    unfolding prior
    id_next k h =
        let a = above (suc k) h in
        let f : ltb (suc k * 44) 44 ≡ false = le-ltb (suc k * 44) 44 (omega arith) in
        let m : suc k * 44 - 44 ≡ k * 44 = omega arith in
        rw (id_is k) (rw (f, m) at a)

    pub id_less : (s k : ℕ) → s < n → k < s → id_of k < id_of s
    id_less zero k h b = absurd (omega arith)
    id_less (suc s) k h b =
        by_order (id_of k < id_of (suc s)) k s
        (λ c. let x = id_less s k (omega arith) c in let y = id_next s h in omega arith)
        (λ c. let e : k ≡ s = omega arith in rw e (id_next s h))

    id_least : (k : ℕ) → k < n → 1 ≤ id_of k
    id_least k h = let a = above k h in omega arith

    -- ---- it is a router's
    end_most : (k t : ℕ) → k < n → t < 8 → get_or (loaded_peer clock (row_at l k)).backoff t 0 ≤ clock + most_backoff
    unfolding loaded_peer end_from
    end_most k t h b =
        let m = topic_most k t 4 (8 + t * 5) h b (omega arith) (omega arith) in
        rw (get_or_tab 8 (λ i. end_from clock (get_or (row_at l k) (8 + i * 5) 0)) t 0 b)
        (cond_case (λ (e : ℕ). e ≤ clock + most_backoff) (eqb (get_or (row_at l k) (8 + t * 5) 0) 0) 0 (clock + get_or (row_at l k) (8 + t * 5) 0)
        (λ e. omega arith)
        (λ e. omega arith))

    peer_facts : (k : ℕ) → k < n → PeerFacts clock (loaded_peer clock (row_at l k))
    unfolding loaded_peer most_of rising_ok
    peer_facts k h =
        record {
          status = omega arith;
          id = field_most k 0 h (omega arith);
          groups = refl;
          outbound = omega arith;
          explicit = omega arith;
          version = omega arith;
          p5 = field_most k 2 h (omega arith);
          p7 = field_most k 3 h (omega arith);
          retain = let a : get_or (row_at l k) 1 0 ≤ most_retain = field_most k 1 h (omega arith) in omega arith;
          ends = λ t b. let a = end_most k t h b in omega arith;
          used = λ z. id_least k h;
          held = λ z. omega arith;
          empty = λ z. absurd (omega arith);
          over = λ z. absurd (z refl);
        }

    topic_facts : (k t joined : ℕ) → k < n → t < 8 → TopicFacts 2 0 joined clock (cap2 st t) (cap3 st t) (loaded_topic (row_at l k) t)
    unfolding loaded_topic loaded_state
    topic_facts k t joined h b =
        record {
          p2 = rw (cap2_same st params refl t) (topic_most k t 0 (4 + t * 5) h b (omega arith) (omega arith));
          p3 = rw (cap3_same st params refl t) (topic_most k t 1 (5 + t * 5) h b (omega arith) (omega arith));
          p4 = topic_most k t 3 (7 + t * 5) h b (omega arith) (omega arith);
          p3b = topic_most k t 2 (6 + t * 5) h b (omega arith) (omega arith);
          subscribed = omega arith;
          member = omega arith;
          graft = omega arith;
          mesh = omega arith;
          empty = λ e. absurd (omega arith);
          outside = λ e. (refl, refl);
          retained = λ e. (refl, refl);
          inside = λ e. absurd (omega arith);
          times = omega arith;
        }

    -- a slot holds a loaded record or none
    pub slot_case :
        (P : Peer → Type 0) (s : ℕ) →
        s < slot_count →
        (s < n → P (loaded_peer clock (row_at l s))) →
        (n ≤ s → P no_peer) →
        P (peer_in st s)
    slot_case P s h a b =
        rw (loaded_peer_lem params clock n l s h)
        (cond_case P (ltb s n) (loaded_peer clock (row_at l s)) no_peer (λ t. a (ltb-true s n t)) (λ t. b (ltb-false s n t)))

    pub peer_there : (s : ℕ) → s < n → peer_in st s ≡ loaded_peer clock (row_at l s)
    peer_there s h = loaded_peer_lem params clock n l s (omega arith) ∙ rw (lt-ltb s n h)

    pub peer_none : (s : ℕ) → s < slot_count → n ≤ s → peer_in st s ≡ no_peer
    peer_none s h b = loaded_peer_lem params clock n l s h ∙ rw (le-ltb s n b)

    pub topic_there : (s t : ℕ) → s < n → t < 8 → topic_in st (place s t) ≡ loaded_topic (row_at l s) t
    topic_there s t h b = loaded_topic_lem params clock n l s t (omega arith) b ∙ rw (lt-ltb s n h)

    id_there : (s : ℕ) → s < n → (peer_in st s).id ≡ id_of s
    unfolding loaded_peer
    id_there s h = ap (λ (p : Peer). p.id) (peer_there s h)

    topic_fits : (s t : ℕ) → s < slot_count → t < 8 →
        TopicFacts (peer_in st s).status (peer_in st s).explicit (joined_in st t) clock (cap2 st t) (cap3 st t) (topic_in st (place s t))
    unfolding loaded_peer
    topic_fits s t h b =
        by_order _ s n
        (λ c. rw (peer_there s c, topic_there s t c b) (topic_facts s t (joined_in st t) c b))
        (λ c. rw (peer_none s h c, loaded_topic_lem params clock n l s t h b, le-ltb s n c) (no_topic_lem _ _ _ _ _ _))

    codes_pass : Accepts st.setup.edition st.codes
    unfolding loaded_state fresh_state
    codes_pass = (valid_facts fresh (fresh_valid params size ok)).params

    clock_is : st.clock ≡ clock
    unfolding loaded_state
    clock_is = refl

    fits_clock : (s t : ℕ) →
        TopicFacts (peer_in st s).status (peer_in st s).explicit (joined_in st t) clock (cap2 st t) (cap3 st t)
        (topic_in st (place s t)) → FitsAt st s (peer_in st s).status (peer_in st s).explicit t
    unfolding loaded_state
    fits_clock s t f = f

    peer_clock : (s : ℕ) → PeerFacts clock (peer_in st s) → PeerFacts st.clock (peer_in st s)
    unfolding loaded_state
    peer_clock s f = f

    facts : Facts st
    facts =
        record {
          params = codes_pass;
          clock = rw clock_is early;
          joined = λ t h. rw (loaded_joined params clock n l t) (omega arith);
          peer = λ s h. peer_clock s (slot_case (PeerFacts clock) s h (peer_facts s) (λ c. no_peer_lem clock));
          topic = λ s t h k. fits_clock s t (topic_fits s t h k);
          ids = λ s k h b e.
              by_order ((peer_in st s).id ≡ 0) s n
              (λ c.
              let x = id_less s k c b in
              let y = id_there s c in
              let z = id_there k (omega arith) in
              absurd (omega arith))
              (λ c. ap (λ (p : Peer). p.id) (peer_none s h c));
        }

    pub loaded_valid : valid st ≡ true
    loaded_valid = facts_valid st facts
