-- What keeps tables a router's: a later clock, another record in a slot, another topic record, another joined flag. Each with the facts
-- that the new number or record has to have.
-- Assumes nothing.
use Prim.Native.Nat.{ℕ, ◌<◌, ◌≤◌}
use native.Mathlib.Omega.{arith}
use mathlib.Core.Path.{◌≡◌, sym, ap, ◌∙◌}
use mathlib.Core.Logic.{◌≢◌}
use Rattle.index.proofs.Flags.{by_order}
use Rattle.records.specs.declared.Peer.{Peer}
use Rattle.records.specs.declared.TopicRecord.{TopicRecord}
use Rattle.records.specs.Records.{State, place, code_in, joined_in, peer_in, topic_in, set_clock, set_joined, set_peer, set_topic, slot_count}
use Rattle.records.specs.Records.{topic_count}
use Rattle.layout.proofs.StateLaws.{peer_case, peer_other, topic_case, joined_case}
use Rattle.validity.specs.Valid.{max_time, topic_param, cap2, cap3}
use Rattle.validity.proofs.ValidLaws.{PeerFacts, TopicFacts, FitsAt, Facts}

-- ---- a topic record under another clock, another joined flag
module _ (status explicit joined clock c2 c3 : ℕ) (t : TopicRecord) (f : TopicFacts status explicit joined clock c2 c3 t) where
  pub topic_later : (later : ℕ) → clock ≤ later → TopicFacts status explicit joined later c2 c3 t
  topic_later later h =
      record {
        p2 = f.p2;
        p3 = f.p3;
        p4 = f.p4;
        p3b = f.p3b;
        subscribed = f.subscribed;
        member = f.member;
        graft = f.graft;
        mesh = f.mesh;
        empty = f.empty;
        outside = f.outside;
        retained = f.retained;
        inside = f.inside;
        times = omega (arith, f.times);
      }

  pub topic_joined : (b : ℕ) → (t.member ≡ 1 → b ≡ 1) → TopicFacts status explicit b clock c2 c3 t
  topic_joined b h =
      record {
        p2 = f.p2;
        p3 = f.p3;
        p4 = f.p4;
        p3b = f.p3b;
        subscribed = f.subscribed;
        member = f.member;
        graft = f.graft;
        mesh = f.mesh;
        empty = f.empty;
        outside = f.outside;
        retained = f.retained;
        inside = λ e. let q = f.inside e in (q.0, q.1, q.2, h e);
        times = f.times;
      }

-- a peer's record under a later clock
pub peer_later : (clock later : ℕ) (p : Peer) → clock ≤ later → PeerFacts clock p → PeerFacts later p
peer_later clock later p h f =
    record {
      status = f.status;
      id = f.id;
      groups = f.groups;
      outbound = f.outbound;
      explicit = f.explicit;
      version = f.version;
      p5 = f.p5;
      p7 = f.p7;
      retain = omega (arith, f.retain);
      ends = λ t k. omega (arith, f.ends t k);
      used = f.used;
      held = f.held;
      empty = f.empty;
      over = f.over;
    }

-- two slots do not hold one id
pub ids_apart :
    (st : State) →
    Facts st →
    (s k : ℕ) →
    s < slot_count →
    k < slot_count →
    k ≢ s →
    (peer_in st k).id ≡ (peer_in st s).id →
    (peer_in st s).id ≡ 0
ids_apart st f s k h l n e =
    by_order
    ((peer_in st s).id ≡ 0)
    k
    s
    (λ (b : k < s). f.ids s k h b e)
    (λ (b : s ≤ k).
    let m : s < k = between s k b n in
    e' m)
  where
    e' : s < k → (peer_in st s).id ≡ 0
    e' m = sym e ∙ f.ids k s l m (sym e)

    between : (a b : ℕ) → a ≤ b → b ≢ a → a < b
    between a b h n = omega (arith, n)

module _ (st : State) (f : Facts st) where
  pub facts_clock : (n : ℕ) → st.clock ≤ n → n ≤ max_time → Facts (set_clock st n)
  unfolding set_clock joined_in peer_in topic_in code_in topic_param
  facts_clock n h b =
      record {
        params = f.params;
        clock = b;
        joined = f.joined;
        peer = λ s k. peer_later st.clock n (peer_in st s) h (f.peer s k);
        topic = λ s t k l.
            topic_later (peer_in st s).status (peer_in st s).explicit (joined_in st t) st.clock (cap2 st t) (cap3 st t)
            (topic_in st (place s t))
            (f.topic s t k l) n h;
        ids = f.ids;
      }

  -- the record's topic records have to fit it, and no other slot may hold its id
  pub facts_peer :
      (s : ℕ) (p : Peer) →
      PeerFacts st.clock p →
      ((t : ℕ) → t < topic_count → FitsAt st s p.status p.explicit t) →
      ((k : ℕ) → k < slot_count → k ≢ s → (peer_in st k).id ≡ p.id → p.id ≡ 0) →
      Facts (set_peer st s p)
  unfolding set_peer joined_in topic_in code_in topic_param
  facts_peer s p ok fits new =
      record {
        params = f.params;
        clock = f.clock;
        joined = f.joined;
        peer = λ u h. peer_case st (PeerFacts st.clock) s p u (λ e. ok) (f.peer u h);
        topic = λ u t h l.
            peer_case st (λ (q : Peer). FitsAt st u q.status q.explicit t) s p u (λ e. rw e (fits t l)) (f.topic u t h l);
        ids = λ u k h l.
            peer_case
            st
            (λ (q : Peer). q.id ≡ (peer_in (set_peer st s p) u).id → (peer_in (set_peer st s p) u).id ≡ 0)
            s
            p
            k
            (λ e q.
            let n : u ≢ s = λ z. omega arith in
            let o : peer_in (set_peer st s p) u ≡ peer_in st u = peer_other st s p u n in
            sym q ∙ new u h n (ap (λ (r : Peer). r.id) (sym o) ∙ sym q))
            (peer_case
            st
            (λ (q : Peer). (peer_in st k).id ≡ q.id → q.id ≡ 0)
            s
            p
            u
            (λ e. new k (omega arith) (λ z. omega arith))
            (f.ids u k h l));
      }

  pub facts_topic :
      (s t : ℕ) (r : TopicRecord) →
      t < topic_count →
      TopicFacts (peer_in st s).status (peer_in st s).explicit (joined_in st t) st.clock (cap2 st t) (cap3 st t) r →
      Facts (set_topic st (place s t) r)
  unfolding set_topic joined_in peer_in code_in topic_param
  facts_topic s t r b ok =
      record {
        params = f.params;
        clock = f.clock;
        joined = f.joined;
        peer = f.peer;
        topic = λ u v h l.
            topic_case
            st
            (λ (q : TopicRecord).
            TopicFacts (peer_in st u).status (peer_in st u).explicit (joined_in st v) st.clock (cap2 st v) (cap3 st v) q)
            (place s t)
            r
            (place u v)
            (λ e.
            let x : u ≡ s = omega arith in
            let y : v ≡ t = omega arith in
            rw (x, y) ok)
            (f.topic u v h l);
        ids = f.ids;
      }

  -- a topic that is not joined has no member
  pub facts_joined :
      (t b : ℕ) →
      b ≤ 1 →
      ((s : ℕ) → s < slot_count → (topic_in st (place s t)).member ≡ 1 → b ≡ 1) →
      Facts (set_joined st t b)
  unfolding set_joined peer_in topic_in code_in topic_param
  facts_joined t b small stays =
      record {
        params = f.params;
        clock = f.clock;
        joined = λ u h. joined_case st (λ (n : ℕ). n ≤ 1) t b u (λ e. small) (f.joined u h);
        peer = f.peer;
        topic = λ s u h l.
            joined_case
            st
            (λ (n : ℕ).
            TopicFacts (peer_in st s).status (peer_in st s).explicit n st.clock (cap2 st u) (cap3 st u) (topic_in st (place s u)))
            t
            b
            u
            (λ e.
            topic_joined
            (peer_in st s).status
            (peer_in st s).explicit
            (joined_in st u)
            st.clock
            (cap2 st u)
            (cap3 st u)
            (topic_in st (place s u))
            (f.topic s u h l)
            b
            (rw e (stays s h)))
            (f.topic s u h l);
        ids = f.ids;
      }
