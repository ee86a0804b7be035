-- Deliveries: one store, read at its place and elsewhere. Decay: only the turns of a slot touch its records, and each sees the record of
-- the start.
-- Assumes nothing.
use Rattle.std.proofs.Common.{Some}
use Prim.Native.Nat.{ℕ, ◌+◌, ◌*◌, ◌≤◌, ◌<◌, min}
use native.Mathlib.Omega.{arith}
use mathlib.Core.Path.{◌≡◌, refl, sym, ap, ap₂, ◌∙◌}
use mathlib.Core.Logic.{◌≢◌}
use mathlib.Core.Bool.{true, false, cond, ◌&&◌}
use mathlib.Core.List.{map}
use lib.Dec.{eqb, leb}
use lib.IntN.{nat_abs}
use borrow.Author.Tests.{eqb-true, eqb-false, eq-eqb, ne_eqb, leb-true}
use Rattle.index.specs.Index.{iter}
use Rattle.index.proofs.Index.{both, iter_keeps}
use Rattle.index.proofs.Flags.{by_test, cond_case}
use Rattle.varint.specs.Codes.{code_of, magnitude}
use Rattle.params.specs.declared.Params.{Params}
use Rattle.limits.specs.Limits.{at}
use Rattle.records.specs.declared.Peer.{Peer}
use Rattle.records.specs.declared.TopicRecord.{TopicRecord}
use Rattle.records.specs.Records.{State, no_topic, place, code_in, peer_in, topic_in, set_clock, is_connected, slot_count}
use Rattle.layout.specs.View.{Sized}
use Rattle.layout.proofs.StateLaws.{topic_same, topic_other, topic_after_peer, topic_after_clock, peer_same, peer_other, peer_after_topic}
use Rattle.layout.proofs.StateLaws.{peer_after_clock, joined_after_topic, joined_after_clock, code_after_topic, code_after_clock}
use Rattle.layout.proofs.StateLaws.{codes_after_topic, codes_after_peer, sized_topic, sized_peer}
use Rattle.validity.proofs.ValidLaws.{valid_facts}
use Rattle.lookup.specs.Find.{find_connected}
use Rattle.lookup.proofs.FindLaws.{connected_is}
use Rattle.score.specs.Counters.{with_counters, raised3_of, first_of, near_first_of, invalid_of, faded_of, mesh_of, decayed_of}
use Rattle.score.specs.Score.{topic_params_in}
use Rattle.effects.specs.Effects.{with_p7, on_topic}
use Rattle.effects.proofs.Walks.{iter_kept, iter_once, iter_before}
use Rattle.effects.proofs.EffectLaws.{place_slot, place_topic}
use Rattle.rules.specs.Reply.{Reply, number_of, ignored}
use Rattle.rules.specs.Calls.{deliver, decay, id_ok, topic_ok}
use Rattle.rules.specs.Step.{is_heard, delivered_of, deliver_reply, decay_floor, decay_topic, decay_p7, decay_slot, decay_reply, effect}
use Rattle.rules.proofs.CaseLaws.{topic_in_lem, arguments, by_gate}
use Rattle.call_lists.specs.Lists.{after}
use Rattle.call_lists.proofs.Standing.{degree_is}
use Rattle.call_lists.proofs.Demand3.{standing}
use Rattle.promises.specs.Counters.{SamePlace, Counted, Delivered, Deliveries, fades, to_zero, Faded, Decayed, Decay}

-- ---- one record by the sheet's numbers, in any state that holds the sheet
module _ (params : Params) (st : State) (codes : st.codes ≡ map code_of params.numbers) (t : ℕ) (r : TopicRecord) where
  number : (j : ℕ) → magnitude (code_in st (19 + 16 * t + j)) ≡ nat_abs (at params.numbers (19 + 16 * t + j))
  number j = degree_is st params codes (19 + 16 * t + j)

  placed : (p2 p3 p4 p3b mesh : ℕ) → SamePlace r (with_counters r p2 p3 p4 p3b mesh)
  placed p2 p3 p4 p3b mesh = record { subscribed = refl; member = refl; graft = refl }

  raised3 : raised3_of (topic_params_in st t) r
      ≡ cond (eqb r.member 1) (min (r.p3 + 1000) (nat_abs (at params.numbers (19 + 16 * t + 9)))) r.p3
  unfolding raised3_of topic_params_in
  raised3 = ap (λ (n : ℕ). cond (eqb r.member 1) (min (r.p3 + 1000) n) r.p3) (number 9)

  counted : (kind : ℕ) → 1 ≤ kind → kind ≤ 3 → Counted params t kind r (delivered_of kind (topic_params_in st t) r)
  unfolding delivered_of first_of near_first_of invalid_of topic_params_in
  counted kind l h =
      by_test _ (eqb kind 1)
      (λ e.
      let z : kind ≡ 1 = eqb-true kind 1 e in
      rw z
      (record {
        p2 = ap (λ (n : ℕ). min (r.p2 + 1000) n) (number 6);
        p3 = raised3;
        p4 = refl;
        p3b = refl;
        mesh = refl;
        same = placed _ _ _ _ _;
      }))
      (λ e.
      by_test _ (eqb kind 2)
      (λ f.
      let z : kind ≡ 2 = eqb-true kind 2 f in
      rw z (record { p2 = refl; p3 = raised3; p4 = refl; p3b = refl; mesh = refl; same = placed _ _ _ _ _ }))
      (λ f.
      let x = eqb-false kind 1 e in
      let y = eqb-false kind 2 f in
      let z : kind ≡ 3 = omega (arith, x, y, l, h) in
      rw z (record { p2 = refl; p3 = refl; p4 = refl; p3b = refl; mesh = refl; same = placed _ _ _ _ _ })))

  fades_is : (floor factor x a b : ℕ) → floor ≡ a → factor ≡ b → faded_of floor factor x ≡ fades a b x
  unfolding faded_of
  fades_is floor factor x a b e f = ap₂ (λ (m n : ℕ). fades m n x) e f

  faded : (time : ℕ) → Faded params time t r (decayed_of (topic_params_in st t) (decay_floor st) time r)
  unfolding decayed_of topic_params_in mesh_of
  faded time =
      let floor = degree_is st params codes 18 in
      record {
        p2 = fades_is _ _ r.p2 _ _ floor (number 5);
        p3 = fades_is _ _ r.p3 _ _ floor (number 8);
        p3b = fades_is _ _ r.p3b _ _ (ap (λ (n : ℕ). n * 1000) floor) (number 13);
        p4 = fades_is _ _ r.p4 _ _ floor (number 15);
        mesh = refl;
        same = placed _ _ _ _ _;
      }

-- ---- a delivery
module _ (params : Params) (st : State) (size : Sized st) (codes : st.codes ≡ map code_of params.numbers) (time t kind s : ℕ) where
  delivered_at :
      s < slot_count → t < 8 → 1 ≤ kind → kind ≤ 3 →
      Delivered params t kind s st (set_clock (on_topic st s t (delivered_of kind (topic_params_in st t))) time)
  delivered_at h k l m =
      let r = topic_in st (place s t) in
      let q = delivered_of kind (topic_params_in st t) r in
      let u = on_topic st s t (delivered_of kind (topic_params_in st t)) in
      let e : topic_in (set_clock u time) (place s t) ≡ q =
      topic_after_clock u time (place s t) ∙ topic_same st (place s t) q (omega (arith, size.topics, h, k)) in
      record {
        counters = rw e (counted params st codes t r kind l m);
        others = λ j n. topic_after_clock u time j ∙ topic_other st (place s t) q j n;
        peers = λ i. peer_after_clock u time i ∙ peer_after_topic st (place s t) q i;
        joined = λ i. joined_after_clock u time i ∙ joined_after_topic st (place s t) q i;
        codes = λ i. code_after_clock u time i ∙ code_after_topic st (place s t) q i;
      }

  delivered_0 :
      s < slot_count → t < 8 → 1 ≤ kind → kind ≤ 3 → number_of (deliver_reply st time t kind s).answer ≡ 0 →
      Delivered params t kind s st (deliver_reply st time t kind s).state
  unfolding deliver_reply
  delivered_0 h k l m =
      cond_case (λ (r : Reply). number_of r.answer ≡ 0 → Delivered params t kind s st r.state) (is_heard st t s) _ (ignored st time)
      (λ e z. delivered_at h k l m)
      (λ e z. absurd (omega (arith, z)))

pub deliveries : Deliveries
unfolding effect
deliveries start calls fine time t kind s room h on =
    let st = after start calls in
    let w = standing start fine calls in
    let id = (peer_in st s).id in
    let at_slot : find_connected st id ≡ Some s = connected_is st (valid_facts st w.router) s h on in
    by_gate (λ (r : Reply). number_of r.answer ≡ 0 → Delivered start.params t kind s st r.state) st (deliver time id t kind) room
    (λ a e z. absurd (eqb-false (number_of a) 0 e z))
    (λ p.
    let a = both (id_ok id && topic_ok t) (leb 1 kind && leb kind 3) (arguments (deliver time id t kind) p.ranges) in
    let b = both (leb 1 kind) (leb kind 3) a.1 in
    rw at_slot
    (delivered_0 start.params st w.size w.codes time t kind s h (topic_in_lem t (both (id_ok id) (topic_ok t) a.0).1)
    (leb-true 1 kind b.0) (leb-true kind 3 b.1)))

-- ---- decay
module _ (params : Params) (time : ℕ) where
  record Good (u : State) : Type 0 where
    sized : Sized u
    codes : u.codes ≡ map code_of params.numbers

  good_topics : (s n : ℕ) (u : State) → Good u → Good (iter n (decay_topic time s) u)
  unfolding decay_topic
  good_topics s n u g =
      iter_keeps Good (decay_topic time s) n u g (λ t v l w.
      record { sized = sized_topic v w.sized (place s t) _; codes = codes_after_topic v (place s t) _ ∙ w.codes })

  good_slot : (s : ℕ) (u : State) → Good u → Good (decay_slot time s u)
  unfolding decay_slot decay_p7 with_p7
  good_slot s u g =
      let v = iter 8 (decay_topic time s) u in
      let w = good_topics s 8 u g in
      cond_case Good (is_connected (peer_in u s)) (decay_p7 s v) u
      (λ c. record { sized = sized_peer v w.sized s _ (w.sized.ends s); codes = codes_after_peer v s _ ∙ w.codes })
      (λ c. g)

  -- the turns of slot i leave the records of slot s alone
  topic_else : (s t : ℕ) → t < 8 → (i : ℕ) (u : State) → i ≢ s → topic_in (decay_slot time i u) (place s t) ≡ topic_in u (place s t)
  unfolding decay_slot decay_p7 decay_topic
  topic_else s t k i u n =
      let v = iter 8 (decay_topic time i) u in
      cond_case (λ (w : State). topic_in w (place s t) ≡ topic_in u (place s t)) (is_connected (peer_in u i)) (decay_p7 i v) u
      (λ c.
      topic_after_peer v i _ (place s t)
      ∙ iter_kept (λ w. topic_in w (place s t)) (decay_topic time i) 8 u
      (λ j w l. topic_other w (place i j) _ (place s t) (place_slot i j s t l k (λ e. n (sym e)))))
      (λ c. refl)

  topics_peer : (i n : ℕ) (u : State) (s : ℕ) → peer_in (iter n (decay_topic time i) u) s ≡ peer_in u s
  unfolding decay_topic
  topics_peer i n u s = iter_kept (λ w. peer_in w s) (decay_topic time i) n u (λ j w l. peer_after_topic w (place i j) _ s)

  peer_else : (s i : ℕ) (u : State) → i ≢ s → peer_in (decay_slot time i u) s ≡ peer_in u s
  unfolding decay_slot decay_p7
  peer_else s i u n =
      let v = iter 8 (decay_topic time i) u in
      cond_case (λ (w : State). peer_in w s ≡ peer_in u s) (is_connected (peer_in u i)) (decay_p7 i v) u
      (λ c. peer_other v i _ s (λ e. n (sym e)) ∙ topics_peer i 8 u s)
      (λ c. refl)

  -- one record of slot s through its turn
  topic_apart : (s t i : ℕ) (u : State) → i ≢ t → topic_in (decay_topic time s i u) (place s t) ≡ topic_in u (place s t)
  unfolding decay_topic
  topic_apart s t i u n = topic_other u (place s i) _ (place s t) (place_topic s i t (λ e. n (sym e)))

  turn_topic :
      (s t : ℕ) (u : State) → s < slot_count → t < 8 → Good u →
      Faded params time t (topic_in u (place s t)) (topic_in (iter 8 (decay_topic time s) u) (place s t))
  unfolding decay_topic
  turn_topic s t u h k g =
      let f = decay_topic time s in
      let v = iter t f u in
      let w = good_topics s t u g in
      let r = topic_in u (place s t) in
      let before : topic_in v (place s t) ≡ r = iter_before (λ x. topic_in x (place s t)) f t (topic_apart s t) t u (omega arith) in
      let e : topic_in (iter 8 f u) (place s t) ≡ decayed_of (topic_params_in v t) (decay_floor v) time r =
      iter_once (λ x. topic_in x (place s t)) f t (topic_apart s t) 8 u k
      ∙ topic_same v (place s t) _ (omega (arith, w.sized.topics, h, k))
      ∙ ap (decayed_of (topic_params_in v t) (decay_floor v) time) before in
      rw e (faded params v w.codes t r time)

  turn_p7 :
      (s : ℕ) (u : State) → s < slot_count → Good u →
      (peer_in (decay_p7 s u) s).p7 ≡ fades (to_zero params) (nat_abs (at params.numbers 17)) (peer_in u s).p7
  unfolding decay_p7 with_p7
  turn_p7 s u h g =
      ap (λ (p : Peer). p.p7) (peer_same u s _ (omega (arith, g.sized.peers, h)))
      ∙ fades_is params u g.codes 0 no_topic _ _ (peer_in u s).p7 _ _
      (degree_is u params g.codes 18) (degree_is u params g.codes 17)

  module _ (st : State) (g : Good st) where
    abbrev walk : ℕ → State
    walk n = iter n (decay_slot time) st

    good : (n : ℕ) → Good (walk n)
    good n = iter_keeps Good (decay_slot time) n st g (λ i u l. good_slot i u)

    peer_before : (s : ℕ) → peer_in (walk s) s ≡ peer_in st s
    peer_before s = iter_before (λ u. peer_in u s) (decay_slot time) s (peer_else s) s st (omega arith)

    topic_before : (s t : ℕ) → t < 8 → topic_in (walk s) (place s t) ≡ topic_in st (place s t)
    topic_before s t k = iter_before (λ u. topic_in u (place s t)) (decay_slot time) s (topic_else s t k) s st (omega arith)

    connected_is_on : (s : ℕ) → (peer_in st s).status ≡ 1 → is_connected (peer_in (walk s) s) ≡ true
    connected_is_on s on = ap (λ (p : Peer). is_connected p) (peer_before s) ∙ eq-eqb _ _ on

    connected_is_off : (s : ℕ) → (peer_in st s).status ≢ 1 → is_connected (peer_in (walk s) s) ≡ false
    connected_is_off s off = ap (λ (p : Peer). is_connected p) (peer_before s) ∙ ne_eqb _ _ off

    decayed : Decayed params time st (set_clock (walk slot_count) time)
    unfolding decay_slot decay_p7
    decayed =
        record {
          counters = λ s t h k on.
              let w = walk s in
              let v = iter 8 (decay_topic time s) w in
              let e : topic_in (set_clock (walk slot_count) time) (place s t) ≡ topic_in v (place s t) =
              topic_after_clock (walk slot_count) time (place s t)
              ∙ iter_once (λ u. topic_in u (place s t)) (decay_slot time) s (topic_else s t k) slot_count st h
              ∙ rw (connected_is_on s on) (topic_after_peer v s _ (place s t)) in
              rw (e, ← (topic_before s t k)) (turn_topic s t w h k (good s));
          p7 = λ s h on.
              let w = walk s in
              let v = iter 8 (decay_topic time s) w in
              let e : peer_in (set_clock (walk slot_count) time) s ≡ peer_in (decay_p7 s v) s =
              peer_after_clock (walk slot_count) time s
              ∙ iter_once (λ u. peer_in u s) (decay_slot time) s (peer_else s) slot_count st h
              ∙ rw (connected_is_on s on) refl in
              ap (λ (p : Peer). p.p7) e
              ∙ turn_p7 s v h (good_topics s 8 w (good s))
              ∙ ap (λ (p : Peer). fades (to_zero params) (nat_abs (at params.numbers 17)) p.p7) (topics_peer s 8 w s ∙ peer_before s);
          peers = λ s h off.
              peer_after_clock (walk slot_count) time s
              ∙ iter_once (λ u. peer_in u s) (decay_slot time) s (peer_else s) slot_count st h
              ∙ rw (connected_is_off s off) (peer_before s);
          topics = λ s t h k off.
              topic_after_clock (walk slot_count) time (place s t)
              ∙ iter_once (λ u. topic_in u (place s t)) (decay_slot time) s (topic_else s t k) slot_count st h
              ∙ rw (connected_is_off s off) (topic_before s t k);
        }

pub decay_is : Decay
unfolding effect decay_reply
decay_is start calls fine time room =
    let st = after start calls in
    let w = standing start fine calls in
    by_gate (λ (r : Reply). number_of r.answer ≡ 0 → Decayed start.params time st r.state) st (decay time) room
    (λ a e z. absurd (eqb-false (number_of a) 0 e z))
    (λ p z. decayed start.params time st (record { sized = w.size; codes = w.codes }))
