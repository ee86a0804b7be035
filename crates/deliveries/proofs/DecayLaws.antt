-- A decay, record by record: what it relies on is kept from each record to the next, and its steps are the rules'.
-- Assumes nothing.
use Rattle.std.proofs.Common.{Result, Ok, Err}
use Prim.Native.Nat.{ℕ, zero, suc, ◌+◌, ◌-◌, ◌*◌, ◌/◌, ◌^◌, ◌<◌, ◌≤◌}
use mathlib.Core.Path.{◌≡◌, refl, sym, ap, ◌∙◌}
use mathlib.Core.Bool.{Bool, true, false, not, ◌&&◌}
use mathlib.Core.List.{List}
use native.Mathlib.Omega.{arith}
use lib.Count.{count_trailing_zeros}
use lib.Dec.{eqb}
use lib.ListN.{length, get_or, set}
use lib.Pow.{shr-shr}
use lib.Seq.{get_or-set_same, get_or-set_other}
use Rattle.index.specs.Index.{iter}
use Rattle.index.proofs.Index.{iter_keeps}
use Rattle.index.proofs.Flags.{cond_case, by_order}
use Rattle.records.specs.declared.Peer.{Peer}
use Rattle.records.specs.declared.TopicRecord.{TopicRecord}
use Rattle.records.specs.Records.{State, place, code_in, peer_in, topic_in, set_peer, set_topic, set_clock, is_connected, slot_count, topic_count}
use Rattle.layout.proofs.StateLaws.{peer_case, topic_case, peer_again, topic_again, topic_other}
use Rattle.words.specs.Words.{word_bits, odd, bits}
use Rattle.words.proofs.BitLaws.{bits_at, bits_length, bits_lowest}
use Rattle.words.proofs.SlotWalk.{lowest_below}
use Rattle.layout.specs.View.{cell_count, state_of, TopicFits, PeerFits}
use borrow.Author.Tests.{ne_eqb, not-false}
use Rattle.validity.specs.Valid.{valid}
use Rattle.score.specs.declared.TopicParams.{TopicParams}
use Rattle.score.specs.Ranges.{TopicParamsIn, CountersIn}
use Rattle.score.specs.Score.{topic_params_in}
use Rattle.score.specs.Counters.{faded_of, mesh_of, decayed_of}
use Rattle.score.proofs.CounterLaws.{faded_less, faded_nothing}
use Rattle.score.proofs.InputLaws.{params_in, slot_in}
use Rattle.varint.specs.Codes.{magnitude}
use Rattle.effects.specs.Effects.{with_p7}
use Rattle.peer_score.specs.Idle.{is_idle}
use Rattle.peer_score.proofs.IdleLaws.{idle_of}
use Rattle.gate.specs.Ready.{Ready}
use Rattle.gate.proofs.StandingLaws.{sizes}
use Rattle.gate.proofs.CallLaws.{gate_refusal, gate_ready, gate_quiet}
use Rattle.rules.specs.declared.Answer.{Answer}
use Rattle.rules.specs.declared.Answer.TheVariants.{Done}
use Rattle.rules.specs.Calls.{decay, time_ok}
use Rattle.rules.specs.Step.{gate_of, effect, decay_floor, decay_topic, decay_p7, decay_slot, decay_reply}
use Rattle.rules.specs.Promise.{Leaves, Follows}
use Rattle.rules.proofs.EndLaws.{leaves_done}
use Rattle.deliveries.specs.Decays.{Decays, IdleBelow, NextTopic}

-- behind the gate
pub decays_of : (st : State) → valid st ≡ true → Decays st
decays_of st v =
    record {
      params = params_in st v;
      floor = (sizes st v).floor;
      factor = (sizes st v).fade;
      counters = λ s t h l. (slot_in st v s h).counters t l;
      p7 = λ s h. (slot_in st v s h).p7;
    }

-- ---- what is relied on is kept

-- no counter grows
decayed_in :
    (t : TopicParams) (floor time : ℕ) (r : TopicRecord) →
    TopicParamsIn t →
    CountersIn r →
    CountersIn (decayed_of t floor time r)
unfolding decayed_of
decayed_in t floor time r h k =
    record {
      p2 = omega (arith, faded_less floor t.decay2 r.p2 (omega arith));
      p3 = omega (arith, faded_less floor t.decay3 r.p3 (omega arith));
      p4 = omega (arith, faded_less floor t.decay4 r.p4 (omega arith));
      p3b = omega (arith, faded_less (floor * 1000) t.decay3b r.p3b (omega arith));
    }

module _ (st : State) (d : Decays st) where
  kept_topic : (time s t : ℕ) → s < slot_count → t < 8 → Decays (decay_topic time s t st)
  unfolding decay_topic set_topic topic_params_in code_in peer_in
  kept_topic time s t h l =
      record {
        params = d.params;
        floor = d.floor;
        factor = d.factor;
        counters = λ u v a b.
            topic_case
            st
            CountersIn
            (place s t)
            (decayed_of (topic_params_in st t) (decay_floor st) time (topic_in st (place s t)))
            (place u v)
            (λ e. decayed_in (topic_params_in st t) (decay_floor st) time (topic_in st (place s t)) (d.params t l) (d.counters s t h l))
            (d.counters u v a b);
        p7 = d.p7;
      }

  kept_p7 : (s : ℕ) → s < slot_count → Decays (decay_p7 s st)
  unfolding decay_p7 with_p7 set_peer topic_params_in code_in topic_in
  kept_p7 s h =
      record {
        params = d.params;
        floor = d.floor;
        factor = d.factor;
        counters = d.counters;
        p7 = λ u a.
            peer_case
            st
            (λ (p : Peer). p.p7 ≤ 1000000)
            s
            (with_p7 (peer_in st s) (faded_of (decay_floor st) (magnitude (code_in st 17)) (peer_in st s).p7))
            u
            (λ e.
            let f = d.factor in
            omega (arith, faded_less (decay_floor st) (magnitude (code_in st 17)) (peer_in st s).p7 (omega arith), d.p7 s h))
            (d.p7 u a);
      }

kept_topics : (st : State) → Decays st → (time s n : ℕ) → s < slot_count → n ≤ 8 → Decays (iter n (decay_topic time s) st)
kept_topics st d time s n h b =
    iter_keeps Decays (decay_topic time s) n st d (λ t u l k. kept_topic u k time s t h (omega arith))

kept_slot : (st : State) → Decays st → (time s : ℕ) → s < slot_count → Decays (decay_slot time s st)
unfolding decay_slot
kept_slot st d time s h =
    cond_case
    Decays
    (is_connected (peer_in st s))
    (decay_p7 s (iter 8 (decay_topic time s) st))
    st
    (λ e. kept_p7 (iter 8 (decay_topic time s) st) (kept_topics st d time s 8 h (omega arith)) s h)
    (λ e. d)

kept_slots : (st : State) → Decays st → (time n : ℕ) → n ≤ slot_count → Decays (iter n (decay_slot time) st)
kept_slots st d time n b =
    iter_keeps Decays (decay_slot time) n st d (λ s u l k. kept_slot u k time s (omega arith))

-- on the way
pub at_topic :
    (st u : State) (time s n : ℕ) → Decays st → s < slot_count → n ≤ 8 → u ≡ iter n (decay_topic time s) st → Decays u
at_topic st u time s n d h b e = rw e (kept_topics st d time s n h b)

pub at_slot : (st u : State) (time n : ℕ) → Decays st → n ≤ slot_count → u ≡ iter n (decay_slot time) st → Decays u
at_slot st u time n d b e = rw e (kept_slots st d time n b)

-- ---- one record, as it is computed: what is loaded is what the state holds

module _ (st : State) (time s t floor : ℕ) (p : TopicParams) (r : TopicRecord) where
  module _ (er : r ≡ topic_in st (place s t)) (ep : p ≡ topic_params_in st t) (ef : floor ≡ decay_floor st) where
    pub topic_ready : Decays st → s < slot_count → t < 8 → TopicParamsIn p × (CountersIn r × (floor ≤ 1000))
    topic_ready d h l = (rw ep (d.params t l), (rw er (d.counters s t h l), omega (arith, d.floor)))

    pub decayed_fits : (q : TopicRecord) → Decays st → s < slot_count → t < 8 → TopicFits r → q ≡ decayed_of p floor time r → TopicFits q
    unfolding decayed_of mesh_of
    decayed_fits q d h l f eq =
        let y = topic_ready d h l in
        let k = decayed_in p floor time r y.0 y.1.0 in
        let a : (decayed_of p floor time r).p2 ≤ 1000000 = k.p2 in
        let b : (decayed_of p floor time r).p3 ≤ 1000000 = k.p3 in
        let c : (decayed_of p floor time r).p4 ≤ 1000000 = k.p4 in
        rw eq (record {
          p2 = omega arith;
          p3 = omega arith;
          p4 = omega arith;
          subscribed = f.subscribed;
          member = f.member;
          graft = f.graft;
          mesh = λ n. rw (ne_eqb r.member 1 n) (f.mesh n);
        })

    pub topic_decayed :
        (q : TopicRecord) (u : State) →
        q ≡ decayed_of p floor time r →
        u ≡ set_topic st (place s t) q →
        u ≡ decay_topic time s t st
    unfolding decay_topic
    topic_decayed q u eq eu = cc

-- nothing fades to nothing, so an idle record stays
idle_stays : (t : TopicParams) (floor time : ℕ) (r : TopicRecord) → is_idle r ≡ true → decayed_of t floor time r ≡ r
unfolding decayed_of mesh_of
idle_stays t floor time r e =
    let i = idle_of r e in
    rw (
      i.member,
      i.p2,
      i.p3,
      i.p4,
      i.p3b,
      faded_nothing floor t.decay2,
      faded_nothing floor t.decay3,
      faded_nothing floor t.decay4,
      faded_nothing (floor * 1000) t.decay3b,
    )

topic_idle :
    (st : State) (time s t : ℕ) (r : TopicRecord) →
    r ≡ topic_in st (place s t) →
    is_idle r ≡ true →
    st ≡ decay_topic time s t st
unfolding decay_topic
topic_idle st time s t r er e =
    sym
    (ap (set_topic st (place s t)) (idle_stays (topic_params_in st t) (decay_floor st) time (topic_in st (place s t)) (rw (← er) e))
    ∙ topic_again st (place s t))

-- ---- the walk over the topics that are not idle

-- the topics before t leave its record
still_there :
    (st : State) (time s i t : ℕ) → i ≤ t → topic_in (iter i (decay_topic time s) st) (place s t) ≡ topic_in st (place s t)
unfolding decay_topic
still_there st time s i t h =
    iter_keeps (λ (u : State). topic_in u (place s t) ≡ topic_in st (place s t)) (decay_topic time s) i st refl
    (λ j u l e. topic_other u (place s j) _ (place s t) (λ q. omega arith) ∙ e)

pub idle_on :
    (st : State) (time s i j : ℕ) →
    i ≤ j →
    ((t : ℕ) → i ≤ t → t < j → is_idle (topic_in st (place s t)) ≡ true) →
    iter i (decay_topic time s) st ≡ iter j (decay_topic time s) st
unfolding iter
idle_on st time s i zero h k = let e : i ≡ 0 = omega arith in ap (λ (n : ℕ). iter n (decay_topic time s) st) e
idle_on st time s i (suc j) h k =
    by_order (iter i (decay_topic time s) st ≡ iter (suc j) (decay_topic time s) st) j i
    (λ l. let e : i ≡ suc j = omega arith in ap (λ (n : ℕ). iter n (decay_topic time s) st) e)
    (λ l.
    idle_on st time s i j l (λ t a b. k t a (omega arith))
    ∙ topic_idle (iter j (decay_topic time s) st) time s j (topic_in st (place s j)) (sym (still_there st time s j j (omega arith)))
    (k j l (omega arith)))

-- one more topic is asked
pub idle_more :
    (st : State) (s t w w' : ℕ) (b : Bool) (r : TopicRecord) →
    t < word_bits →
    r ≡ topic_in st (place s t) →
    b ≡ is_idle r →
    bits word_bits w' ≡ set (bits word_bits w) t (not b) →
    IdleBelow st s t w →
    IdleBelow st s (t + 1) w'
idle_more st s t w w' b r h er eb ew below k l e =
    by_order (is_idle (topic_in st (place s k)) ≡ true) k t
    (λ (a : k < t).
    below k a (sym (get_or-set_other (bits word_bits w) t k (not b) false (λ q. omega arith)) ∙ ap (λ (x : List Bool). get_or x k false) (sym ew)
    ∙ e))
    (λ (a : t ≤ k).
    let z : k ≡ t = omega arith in
    let n = bits_length word_bits w in
    let q : get_or (bits word_bits w') t false ≡ false = rw (← z) e in
    let f : not b ≡ false =
    sym (get_or-set_same (bits word_bits w) t (not b) false (omega arith)) ∙ ap (λ (x : List Bool). get_or x t false) (sym ew) ∙ q in
    ap (λ (n : ℕ). is_idle (topic_in st (place s n))) z ∙ ap is_idle (sym er) ∙ sym eb ∙ not-false b f)

-- the bits of a word from bit t on are those of the word moved down by t
pub next_topic :
    (w t n r : ℕ) →
    t ≤ topic_count →
    n ≡ t + count_trailing_zeros word_bits (w / 2 ^ t) →
    r ≤ n →
    t ≤ r →
    r ≤ topic_count →
    NextTopic w t r
next_topic w t n r h en l a b =
    record {
      later = a;
      most = b;
      none = λ k u v.
          let j : ℕ = k - t in
          let e : t + j ≡ k = omega arith in
          let z = bits_lowest word_bits (w / 2 ^ t) in
          bits_at k word_bits w (omega arith)
          ∙ ap odd (ap (λ (x : ℕ). w / 2 ^ x) (sym e) ∙ sym (shr-shr w t j))
          ∙ sym (bits_at j word_bits (w / 2 ^ t) (omega arith))
          ∙ lowest_below (bits word_bits (w / 2 ^ t)) j (omega arith);
    }

-- ---- P7

-- 0 fades to 0, so that the record stays
pub p7_idle : (st : State) (s : ℕ) (p : Peer) → p ≡ peer_in st s → p.p7 ≡ 0 → st ≡ decay_p7 s st
unfolding decay_p7 with_p7
p7_idle st s p ep e =
    let z : (peer_in st s).p7 ≡ 0 = ap (λ (q : Peer). q.p7) (sym ep) ∙ e in
    let f : faded_of (decay_floor st) (magnitude (code_in st 17)) (peer_in st s).p7 ≡ (peer_in st s).p7 =
    ap (faded_of (decay_floor st) (magnitude (code_in st 17))) z ∙ faded_nothing (decay_floor st) (magnitude (code_in st 17)) ∙ sym z in
    sym (ap (λ (x : ℕ). set_peer st s (with_p7 (peer_in st s) x)) f ∙ peer_again st s)

module _ (st : State) (s floor factor x : ℕ) (p q : Peer) (u : State) where
  pub p7_decayed :
      p ≡ peer_in st s →
      floor ≡ decay_floor st →
      factor ≡ magnitude (code_in st 17) →
      x ≡ faded_of floor factor p.p7 →
      q ≡ with_p7 p x →
      u ≡ set_peer st s q →
      u ≡ decay_p7 s st
  unfolding decay_p7
  p7_decayed ep ef eg ex eq eu = cc

pub p7_fits :
    (floor factor x : ℕ) (p q : Peer) →
    factor ≤ 1000 →
    PeerFits p →
    x ≡ faded_of floor factor p.p7 →
    q ≡ with_p7 p x →
    PeerFits q
unfolding with_p7
p7_fits floor factor x p q h f ex eq =
    let l = faded_less floor factor p.p7 h in
    rw eq (record {
      status = f.status;
      outbound = f.outbound;
      explicit = f.explicit;
      version = f.version;
      p5 = f.p5;
      p7 = let m = f.p7 in omega arith;
    })

pub p7_ready :
    (st : State) (s factor : ℕ) (p : Peer) →
    Decays st →
    s < slot_count →
    p ≡ peer_in st s →
    factor ≡ magnitude (code_in st 17) →
    (factor ≤ 1000) × (p.p7 ≤ 1000000000000)
p7_ready st s factor p d h ep ef =
    let x : p.p7 ≡ (peer_in st s).p7 = ap (λ (q : Peer). q.p7) ep in
    (omega (arith, d.factor), omega (arith, d.p7 s h))

-- ---- one slot

module _ (st : State) (time s status : ℕ) (e : status ≡ (peer_in st s).status) where
  pub slot_connected :
      (v u : State) →
      eqb status 1 ≡ true →
      v ≡ iter 8 (decay_topic time s) st →
      u ≡ decay_p7 s v →
      u ≡ decay_slot time s st
  unfolding decay_slot
  slot_connected v u g ev eu = eu ∙ ap (decay_p7 s) ev ∙ rw (← e, g)

  pub slot_other : eqb status 1 ≡ false → st ≡ decay_slot time s st
  unfolding decay_slot
  slot_other g = rw (← e, g)

-- ---- the call: its one argument is the time

time_alone :
    (st : State) (a : Bool) (room time : ℕ) (g : Result (Unit {0}) Answer) → g ≡ gate_of st a room time → g ≡ gate_of st (a && true) room time
time_alone st true room time g e = e
time_alone st false room time g e = e

module _
    (table list : List ℕ)
    (a : Bool)
    (time : ℕ)
    (g : Result (Unit {0}) Answer)
    (ea : a ≡ time_ok time)
    (eg : g ≡ gate_of (state_of table) a (length list) time)
  where
    pub decay_refuses : (x : Answer) → g ≡ Err x → Follows (decay time) x table table list list
    decay_refuses = gate_refusal (decay time) table list a true g ea refl (time_alone _ a _ time g eg)

    pub decay_ready : g ≡ Ok tt → length table ≡ cell_count → Ready table time
    decay_ready e = gate_ready table a true (length list) time g (time_alone _ a _ time g eg) e ea

    pub decay_quiet :
        g ≡ Ok tt →
        (r : Answer) (table' : List ℕ) →
        Leaves (decay_reply (state_of table) time) r table table' →
        Follows (decay time) r table table' list list
    unfolding effect decay_reply
    decay_quiet e r table' l = gate_quiet (decay time) table list a true g ea refl (time_alone _ a _ time g eg) e r table' refl l

-- all slots decayed, and the clock moved
pub decay_done :
    (table mid table' : List ℕ) (time : ℕ) (a : Answer) →
    state_of mid ≡ iter slot_count (decay_slot time) (state_of table) →
    (a ≡ Done 0) × (state_of table' ≡ set_clock (state_of mid) time) →
    Leaves (decay_reply (state_of table) time) a table table'
unfolding decay_reply
decay_done table mid table' time a e f = leaves_done table mid table' _ time a e f
