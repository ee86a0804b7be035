-- A router's records fit into their packed cells, and none stands past the mark.
-- Assumes nothing.
use Prim.Native.Nat.{ℕ, ◌<◌, ◌≤◌}
use mathlib.Core.Path.{◌≡◌}
use mathlib.Core.Bool.{true}
use native.Mathlib.Omega.{arith}
use Rattle.params.proofs.ParamLaws.{topic}
use Rattle.records.specs.declared.Peer.{Peer}
use Rattle.records.specs.declared.TopicRecord.{TopicRecord}
use Rattle.records.specs.Records.{State, place, code_in, peer_in, topic_in, slot_count, topic_count}
use Rattle.layout.specs.View.{TopicFits, PeerFits}
use Rattle.validity.specs.Valid.{topic_param, cap2, cap3, valid}
use Rattle.validity.proofs.ValidLaws.{PeerFacts, TopicFacts, Facts, valid_facts}

pub peer_facts_fit : (clock : ℕ) (p : Peer) → PeerFacts clock p → PeerFits p
peer_facts_fit clock p f =
    record {
      status = let a = f.status in omega arith;
      outbound = f.outbound;
      explicit = f.explicit;
      version = let a = f.version in omega arith;
      p5 = let a = f.p5 in omega arith;
      p7 = let a = f.p7 in omega arith;
    }

pub topic_facts_fit :
    (status explicit joined clock c2 c3 : ℕ) (t : TopicRecord) →
    c2 ≤ 1000000 →
    c3 ≤ 1000000 →
    TopicFacts status explicit joined clock c2 c3 t →
    TopicFits t
topic_facts_fit status explicit joined clock c2 c3 t m n f =
    record {
      p2 = let a = f.p2 in omega arith;
      p3 = let a = f.p3 in omega arith;
      p4 = let a = f.p4 in omega arith;
      subscribed = f.subscribed;
      member = f.member;
      graft = λ e. (f.outside e).0;
      mesh = λ e. (f.outside e).1;
    }

module _ (st : State) (ok : valid st ≡ true) where
  facts : Facts st
  facts = valid_facts st ok

  pub peer_fits : (s : ℕ) → s < slot_count → PeerFits (peer_in st s)
  peer_fits s h = peer_facts_fit st.clock (peer_in st s) (facts.peer s h)

  cap2_most : (t : ℕ) → t < topic_count → cap2 st t ≤ 1000000
  unfolding topic_param code_in
  cap2_most t l = (topic st.codes facts.params t l).p2_cap_most

  cap3_most : (t : ℕ) → t < topic_count → cap3 st t ≤ 1000000
  unfolding topic_param code_in
  cap3_most t l = (topic st.codes facts.params t l).p3_cap_most

  pub topic_fits : (s t : ℕ) → s < slot_count → t < topic_count → TopicFits (topic_in st (place s t))
  topic_fits s t h l = topic_facts_fit _ _ _ _ _ _ (topic_in st (place s t)) (cap2_most t l) (cap3_most t l) (facts.topic s t h l)
