-- "Each call keeps this so", of one store: a state that is a router's once its clock is `time` stays one after each change of a record that
-- the calls make. The clock counts as moved from the start, since a GRAFT and a decay store times up to it.
-- Assumes nothing.
use Prim.Native.Nat.{ℕ, ◌<◌, ◌≤◌}
use native.Mathlib.Omega.{arith}
use mathlib.Core.Path.{◌≡◌, refl, ap, ◌∙◌}
use mathlib.Core.Bool.{Bool, true, false, cond}
use mathlib.Core.Logic.{◌≢◌}
use lib.ListN.{length}
use Rattle.index.proofs.Flags.{cond_case}
use Rattle.records.specs.declared.Peer.{Peer}
use Rattle.records.specs.declared.TopicRecord.{TopicRecord}
use Rattle.records.specs.Records.{State, place, code_in, joined_in, peer_in, topic_in, set_clock, set_joined, set_peer, set_topic, slot_count}
use Rattle.layout.specs.View.{Sized}
use Rattle.layout.proofs.StateLaws.{sized_clock, sized_joined, sized_peer, sized_topic, peer_after_topic}
use Rattle.params.proofs.ParamLaws.{General, general}
use Rattle.validity.specs.Valid.{max_time, max_end, max_retain, topic_param, cap2, cap3, valid}
use Rattle.validity.proofs.ValidLaws.{PeerFacts, TopicFacts, Facts, valid_facts, facts_valid}
use Rattle.validity.proofs.Keeps.{ids_apart, facts_clock, facts_peer, facts_topic, facts_joined}
use Rattle.effects.specs.Effects.{with_end, with_p7, on_peer, out_of_mesh, pruned, end_after, prune_backoff, unsubscribe_backoff, retain_seconds}
use Rattle.effects.proofs.EffectLaws.{ends_with}
use Rattle.rules.specs.Reply.{Reply}
use Rattle.rules.specs.Step.{of_peer}
use Rattle.rules.proofs.CaseLaws.{by_peer}
use Rattle.rules.proofs.KeepsRecord.{topic_out, peer_end, peer_p7}

-- what a call has to leave; every table's state has the sizes
pub record Router (st : State) : Type 0 where
  pub size : Sized st
  pub router : valid st ≡ true

-- a router's, once its clock is `time`
pub record RouterAt (time : ℕ) (st : State) : Type 0 where
  pub size : Sized st
  pub facts : Facts (set_clock st time)

-- a record for topic t fits a peer of this status and this explicit flag, and fits the peer in slot s
abbrev pub FitsAs : ℕ → State → (status explicit t : ℕ) → TopicRecord → Type 0
FitsAs time st status explicit t r = TopicFacts status explicit (joined_in st t) time (cap2 st t) (cap3 st t) r

abbrev pub Fits : ℕ → State → (s t : ℕ) → TopicRecord → Type 0
Fits time st s t r = FitsAs time st (peer_in st s).status (peer_in st s).explicit t r

pub router_start :
    (time : ℕ) (st : State) → Sized st → valid st ≡ true → st.clock ≤ time → time ≤ max_time → RouterAt time st
router_start time st size v h b = record { size = size; facts = facts_clock st (valid_facts st v) time h b }

module _ (time : ℕ) (st : State) (g : RouterAt time st) where
  pub router_end : Router (set_clock st time)
  router_end = record { size = sized_clock st g.size time; router = facts_valid (set_clock st time) g.facts }

  -- ---- what is known
  pub latest : time ≤ max_time
  unfolding set_clock
  latest = g.facts.clock

  pub peer_of : (s : ℕ) → s < slot_count → PeerFacts time (peer_in st s)
  unfolding set_clock peer_in
  peer_of s h = g.facts.peer s h

  pub topic_of : (s t : ℕ) → s < slot_count → t < 8 → Fits time st s t (topic_in st (place s t))
  unfolding set_clock peer_in topic_in joined_in code_in topic_param
  topic_of s t h k = g.facts.topic s t h k

  pub ids_of :
      (s k : ℕ) → s < slot_count → k < slot_count → k ≢ s → (peer_in st k).id ≡ (peer_in st s).id → (peer_in st s).id ≡ 0
  unfolding set_clock peer_in
  ids_of s k h l n e = ids_apart (set_clock st time) g.facts s k h l n e

  pub params_of : General st.codes
  unfolding set_clock
  params_of = general st.codes g.facts.params

  -- ends of backoffs and of the retain period
  pub end_most : (seconds : ℕ) → seconds ≤ 3600 → end_after time seconds ≤ max_end time
  end_most seconds h = omega (arith, latest)

  pub prune_most : prune_backoff st ≤ 3600
  unfolding code_in
  prune_most = params_of.prune_backoff_most

  pub leave_most : unsubscribe_backoff st ≤ 3600
  unfolding code_in
  leave_most = params_of.leave_backoff_most

  pub retain_most : end_after time (retain_seconds st) ≤ max_retain time
  unfolding code_in
  retain_most = omega (arith, latest, params_of.retain_most)

  -- ---- stores
  pub router_topic : (s t : ℕ) (r : TopicRecord) → t < 8 → Fits time st s t r → RouterAt time (set_topic st (place s t) r)
  unfolding set_clock set_topic peer_in joined_in code_in topic_param
  router_topic s t r k ok =
      record {
        size = sized_topic st g.size (place s t) r;
        facts = facts_topic (set_clock st time) g.facts s t r k ok;
      }

  module _ (s : ℕ) (p : Peer) (ends : length p.backoff ≡ 8) (ok : PeerFacts time p) where
    -- its topic records have to fit, and no other slot may hold its id
    pub router_peer :
        ((t : ℕ) → t < 8 → FitsAs time st p.status p.explicit t (topic_in st (place s t))) →
        ((k : ℕ) → k < slot_count → k ≢ s → (peer_in st k).id ≡ p.id → p.id ≡ 0) →
        RouterAt time (set_peer st s p)
    unfolding set_clock set_peer peer_in joined_in topic_in code_in topic_param
    router_peer fits new =
        record {
          size = sized_peer st g.size s p ends;
          facts = facts_peer (set_clock st time) g.facts s p ok fits new;
        }

    -- the same with the id that the slot holds already
    pub router_same_id :
        s < slot_count →
        p.id ≡ (peer_in st s).id →
        ((t : ℕ) → t < 8 → FitsAs time st p.status p.explicit t (topic_in st (place s t))) →
        RouterAt time (set_peer st s p)
    router_same_id h e fits = router_peer fits (λ k l n q. e ∙ ids_of s k h l n (q ∙ e))

    -- and with its status and explicit flag too
    pub router_numbers :
        s < slot_count →
        p.id ≡ (peer_in st s).id →
        p.status ≡ (peer_in st s).status →
        p.explicit ≡ (peer_in st s).explicit →
        RouterAt time (set_peer st s p)
    router_numbers h e f x = router_same_id h e (λ t k. rw (f, x) (topic_of s t h k))

  pub router_joined :
      (t b : ℕ) →
      b ≤ 1 →
      ((s : ℕ) → s < slot_count → (topic_in st (place s t)).member ≡ 1 → b ≡ 1) →
      RouterAt time (set_joined st t b)
  unfolding set_clock set_joined peer_in topic_in code_in topic_param
  router_joined t b small stays =
      record {
        size = sized_joined st g.size t b;
        facts = facts_joined (set_clock st time) g.facts t b small stays;
      }

  -- ---- a connected slot
  module _ (s : ℕ) (h : s < slot_count) (on : (peer_in st s).status ≡ 1) where
    -- a backoff's end
    pub router_backoff : (t end : ℕ) → t < 8 → end ≤ max_end time → RouterAt time (on_peer st s (λ p. with_end p t end))
    unfolding with_end
    router_backoff t end k b =
        router_numbers
        s
        (with_end (peer_in st s) t end)
        (ends_with (peer_in st s) t end ∙ g.size.ends s)
        (peer_end time (peer_in st s) (peer_of s h) on t end k b)
        h
        refl
        refl
        refl

    pub router_p7 : (n : ℕ) → n ≤ 1000000 → RouterAt time (on_peer st s (λ p. with_p7 p n))
    unfolding with_p7
    router_p7 n b =
        router_numbers s (with_p7 (peer_in st s) n) (g.size.ends s) (peer_p7 time (peer_in st s) (peer_of s h) on n b) h refl refl refl

-- the state u, on the way of a walk from st: still a router's, with the statuses of st
pub record Walked (time : ℕ) (st u : State) : Type 0 where
  pub at : RouterAt time u
  pub status : (s : ℕ) → (peer_in u s).status ≡ (peer_in st s).status

pub walk_none : (time : ℕ) (st : State) → RouterAt time st → Walked time st st
walk_none time st g = record { at = g; status = λ i. refl }

pub walk_topic :
    (time : ℕ) (st u : State) →
    Walked time st u →
    (s t : ℕ) (r : TopicRecord) →
    t < 8 →
    Fits time u s t r →
    Walked time st (set_topic u (place s t) r)
walk_topic time st u w s t r k ok =
    record {
      at = router_topic time u w.at s t r k ok;
      status = λ i. ap (λ (p : Peer). p.status) (peer_after_topic u (place s t) r i) ∙ w.status i;
    }

-- a PRUNE's effect on a connected slot
pub router_pruned :
    (time : ℕ) (st : State) →
    RouterAt time st →
    (s t end : ℕ) →
    s < slot_count →
    t < 8 →
    (peer_in st s).status ≡ 1 →
    end ≤ max_end time →
    RouterAt time (pruned st s t end)
unfolding pruned
router_pruned time st g s t end h k on b =
    let r = out_of_mesh (topic_in st (place s t)) in
    let u : RouterAt time (set_topic st (place s t) r) =
    router_topic time st g s t r k (topic_out _ _ _ _ _ _ (topic_in st (place s t)) (topic_of time st g s t h k)) in
    router_backoff time (set_topic st (place s t) r) u s h (ap (λ (p : Peer). p.status) (peer_after_topic st (place s t) r s) ∙ on) t end k
    b

-- ---- replies
-- a reply that goes by a test
pub either :
    (b : Bool) (o q : Reply) →
    (b ≡ true → Router o.state) →
    (b ≡ false → Router q.state) →
    Router (cond b o q).state
either b o q = cond_case (λ (x : Reply). Router x.state) b o q

-- 3, or the reply of the connected slot that holds the id
pub of_peer_lem :
    (st : State) (id : ℕ) (f : ℕ → Reply) →
    Router st →
    ((s : ℕ) → s < slot_count → (peer_in st s).status ≡ 1 → Router (f s).state) →
    Router (of_peer st id f).state
of_peer_lem st id f v h = by_peer (λ (r : Reply). Router r.state) st id f v h
