-- Test 12 in plain facts: what `valid` says of each number by slot and topic (`Facts`), and that the facts are `valid`.
-- Assumes nothing.
use Prim.Native.Nat.{ℕ, ◌+◌, ◌<◌, ◌≤◌}
use native.Mathlib.Omega.{arith}
use mathlib.Core.Path.{◌≡◌, refl, ap}
use mathlib.Core.Bool.{Bool, true, false, not, ◌&&◌}
use lib.ListN.{length, get_or}
use lib.Seq.{ext_get_or}
use lib.Dec.{eqb, leb}
use borrow.Author.Tests.{le-leb, leb-true, eq-eqb, ne_eqb, eqb-true, eqb-false, not-true, not-false}
use Rattle.index.specs.Index.{every}
use Rattle.index.proofs.Index.{both, every_at, every_by}
use Rattle.index.proofs.Flags.{all5, by_test}
use Rattle.params.proofs.ParamLaws.{Accepts}
use Rattle.records.specs.declared.Groups.{Groups}
use Rattle.records.specs.declared.Peer.{Peer}
use Rattle.records.specs.declared.TopicRecord.{TopicRecord}
use Rattle.records.specs.Records.{State, place, no_groups, no_peer, no_topic, joined_in, peer_in, topic_in, is_empty, is_retained, slot_count}
use Rattle.records.specs.Records.{topic_count}
use Rattle.validity.specs.Valid.{max_time, max_end, max_retain, max_id, peer_ranges, ends_up_to, used_ok, zero_peer, empty_ok, retain_ok, peer_ok}
use Rattle.validity.specs.Valid.{rising_ok, zero_groups}
use Rattle.validity.specs.Valid.{topic_ranges, zero_topic, empty_topic_ok, outside_ok, retained_ok, member_ok, times_ok, topic_ok}
use Rattle.validity.specs.Valid.{cap2, cap3, joined_ok, topic_ok_at, slot_ok, apart, new_id, valid}
use Rattle.validity.proofs.Conditions.{all4, all6, all8, all9, then, then_by, else, else_by}

-- ---- a peer's record
pub record PeerFacts (clock : ℕ) (p : Peer) : Type 0 where
  pub status : p.status ≤ 2
  pub id : p.id ≤ max_id
  pub groups : rising_ok p.groups ≡ true
  pub outbound : p.outbound ≤ 1
  pub explicit : p.explicit ≤ 1
  pub version : p.version ≤ 2
  pub p5 : p.p5 ≤ 2000000000
  pub p7 : p.p7 ≤ 1000000
  pub retain : p.retain ≤ max_retain clock
  pub ends : (t : ℕ) → t < topic_count → get_or p.backoff t 0 ≤ max_end clock
  pub used : (p.status ≡ 0 → ⊥) → 1 ≤ p.id
  pub held : (p.status ≡ 0 → ⊥) → 1 ≤ p.groups.first
  pub empty : p.status ≡ 0 → zero_peer p ≡ true
  pub over : (p.status ≡ 2 → ⊥) → p.retain ≡ 0

pub ends_at : (m : ℕ) (p : Peer) → ends_up_to m p ≡ true → (t : ℕ) → t < topic_count → get_or p.backoff t 0 ≤ m
unfolding ends_up_to
ends_at m p e t h =
    leb-true (get_or p.backoff t 0) m (every_at (λ k. leb (get_or p.backoff k 0) m) 8 t e h)

pub ends_by : (m : ℕ) (p : Peer) → ((t : ℕ) → t < topic_count → get_or p.backoff t 0 ≤ m) → ends_up_to m p ≡ true
unfolding ends_up_to
ends_by m p h =
    every_by (λ k. leb (get_or p.backoff k 0) m) 8 (λ t b. le-leb (get_or p.backoff t 0) m (h t b))

pub peer_facts : (clock : ℕ) (p : Peer) → peer_ok clock p ≡ true → PeerFacts clock p
unfolding peer_ok peer_ranges used_ok empty_ok retain_ok
peer_facts clock p e =
    let q = all5 _ _ _ _ _ e in
    let r = all9 _ _ _ _ _ _ _ _ _ q.0 in
    let has : (p.status ≡ 0 → ⊥) → (leb 1 p.id ≡ true) × (leb 1 p.groups.first ≡ true) =
    λ n. both (leb 1 p.id) (leb 1 p.groups.first)
    (else (is_empty p) (leb 1 p.id && leb 1 p.groups.first) q.2 (ne_eqb p.status 0 n)) in
    record {
      status = leb-true p.status 2 r.0;
      id = leb-true p.id max_id r.1;
      groups = r.2;
      outbound = leb-true p.outbound 1 r.3;
      explicit = leb-true p.explicit 1 r.4;
      version = leb-true p.version 2 r.5;
      p5 = leb-true p.p5 2000000000 r.6;
      p7 = leb-true p.p7 1000000 r.7;
      retain = leb-true p.retain (max_retain clock) r.8;
      ends = ends_at (max_end clock) p q.1;
      used = λ n. leb-true 1 p.id (has n).0;
      held = λ n. leb-true 1 p.groups.first (has n).1;
      empty = λ h. then (is_empty p) (zero_peer p) q.3 (eq-eqb p.status 0 h);
      over = λ n. eqb-true p.retain 0 (else (is_retained p) (eqb p.retain 0) q.4 (ne_eqb p.status 2 n));
    }

pub peer_holds : (clock : ℕ) (p : Peer) → PeerFacts clock p → peer_ok clock p ≡ true
unfolding peer_ok peer_ranges used_ok empty_ok retain_ok
peer_holds clock p f =
    let b : used_ok p ≡ true =
    else_by (is_empty p) (leb 1 p.id && leb 1 p.groups.first) (λ n.
    let u = eqb-false p.status 0 n in
    rw (le-leb 1 p.id (f.used u), le-leb 1 p.groups.first (f.held u))) in
    let d : empty_ok p ≡ true = then_by (is_empty p) (zero_peer p) (λ h. f.empty (eqb-true p.status 0 h)) in
    let g : retain_ok p ≡ true =
    else_by (is_retained p) (eqb p.retain 0) (λ n. eq-eqb p.retain 0 (f.over (eqb-false p.status 2 n))) in
    rw (
      le-leb p.status 2 f.status,
      le-leb p.id max_id f.id,
      f.groups,
      le-leb p.outbound 1 f.outbound,
      le-leb p.explicit 1 f.explicit,
      le-leb p.version 2 f.version,
      le-leb p.p5 2000000000 f.p5,
      le-leb p.p7 1000000 f.p7,
      le-leb p.retain (max_retain clock) f.retain,
      ends_by (max_end clock) p f.ends,
      b,
      d,
      g,
    )

none_zero : (t : ℕ) → t < topic_count → get_or no_peer.backoff t 0 ≡ 0
unfolding every
none_zero t h =
    eqb-true (get_or no_peer.backoff t 0) 0 (every_at (λ k. eqb (get_or no_peer.backoff k 0) 0) 8 t refl h)

-- no group at all
pub zero_groups_lem : (g : Groups) → zero_groups g ≡ true → g ≡ no_groups
unfolding zero_groups
zero_groups_lem g e =
    let q = all4 (eqb g.first 0) (eqb g.second 0) (eqb g.third 0) (eqb g.fourth 0) e in
    λ i. record {
      first = eqb-true g.first 0 q.0 i;
      second = eqb-true g.second 0 q.1 i;
      third = eqb-true g.third 0 q.2 i;
      fourth = eqb-true g.fourth 0 q.3 i;
    }

-- an empty record is the record of zeros
pub zero_is : (p : Peer) → zero_peer p ≡ true → p.status ≡ 0 → length p.backoff ≡ 8 → p ≡ no_peer
unfolding zero_peer
zero_is p e s l =
    let r =
    all9
    (eqb p.id 0)
    (zero_groups p.groups)
    (eqb p.outbound 0)
    (eqb p.explicit 0)
    (eqb p.version 0)
    (eqb p.p5 0)
    (eqb p.p7 0)
    (eqb p.retain 0)
    (ends_up_to 0 p)
    e in
    let b : p.backoff ≡ no_peer.backoff =
    ext_get_or 0 p.backoff no_peer.backoff l (λ t h. omega (arith, none_zero t (omega arith), ends_at 0 p r.8 t (omega arith))) in
    λ i. record {
      status = s i;
      id = eqb-true p.id 0 r.0 i;
      groups = zero_groups_lem p.groups r.1 i;
      outbound = eqb-true p.outbound 0 r.2 i;
      explicit = eqb-true p.explicit 0 r.3 i;
      version = eqb-true p.version 0 r.4 i;
      p5 = eqb-true p.p5 0 r.5 i;
      p7 = eqb-true p.p7 0 r.6 i;
      retain = eqb-true p.retain 0 r.7 i;
      backoff = b i;
    }

pub no_peer_lem : (clock : ℕ) → PeerFacts clock no_peer
unfolding zero_peer zero_groups rising_ok ends_up_to every
no_peer_lem clock =
    record {
      status = omega arith;
      id = omega arith;
      groups = refl;
      outbound = omega arith;
      explicit = omega arith;
      version = omega arith;
      p5 = omega arith;
      p7 = omega arith;
      retain = omega arith;
      ends = λ t h. let a = ends_at 0 no_peer refl t h in omega arith;
      used = λ n. absurd (n refl);
      held = λ n. absurd (n refl);
      empty = λ h. refl;
      over = λ n. refl;
    }

-- ---- what a record holds for one topic
pub record TopicFacts (status explicit joined clock cap2 cap3 : ℕ) (t : TopicRecord) : Type 0 where
  pub p2 : t.p2 ≤ cap2
  pub p3 : t.p3 ≤ cap3
  pub p4 : t.p4 ≤ 1000000
  pub p3b : t.p3b ≤ 1000000000000
  pub subscribed : t.subscribed ≤ 1
  pub member : t.member ≤ 1
  pub graft : t.graft ≤ max_time
  pub mesh : t.mesh ≤ max_time
  pub empty : status ≡ 0 → t ≡ no_topic
  pub outside : (t.member ≡ 1 → ⊥) → (t.graft ≡ 0) × (t.mesh ≡ 0)
  pub retained : status ≡ 2 → (t.subscribed ≡ 0) × (t.member ≡ 0)
  pub inside : t.member ≡ 1 → (status ≡ 1) × (t.subscribed ≡ 1) × (explicit ≡ 0) × (joined ≡ 1)
  pub times : t.graft + t.mesh ≤ clock

zero_topic_is : (t : TopicRecord) → zero_topic t ≡ true → t ≡ no_topic
unfolding zero_topic
zero_topic_is t e =
    let r = all8 _ _ _ _ _ _ _ _ e in
    λ i. record {
      p2 = eqb-true t.p2 0 r.0 i;
      p3 = eqb-true t.p3 0 r.1 i;
      p4 = eqb-true t.p4 0 r.2 i;
      p3b = eqb-true t.p3b 0 r.3 i;
      subscribed = eqb-true t.subscribed 0 r.4 i;
      member = eqb-true t.member 0 r.5 i;
      graft = eqb-true t.graft 0 r.6 i;
      mesh = eqb-true t.mesh 0 r.7 i;
    }

zero_topic_by : (t : TopicRecord) → t ≡ no_topic → zero_topic t ≡ true
unfolding zero_topic
zero_topic_by t e = ap zero_topic e

module _ (status explicit joined clock c2 c3 : ℕ) where
  pub topic_facts :
      (t : TopicRecord) → topic_ok status explicit joined clock c2 c3 t ≡ true → TopicFacts status explicit joined clock c2 c3 t
  unfolding topic_ok topic_ranges empty_topic_ok outside_ok retained_ok member_ok times_ok
  topic_facts t e =
      let q = all6 _ _ _ _ _ _ e in
      let r = all8 _ _ _ _ _ _ _ _ q.0 in
      record {
        p2 = leb-true t.p2 c2 r.0;
        p3 = leb-true t.p3 c3 r.1;
        p4 = leb-true t.p4 1000000 r.2;
        p3b = leb-true t.p3b 1000000000000 r.3;
        subscribed = leb-true t.subscribed 1 r.4;
        member = leb-true t.member 1 r.5;
        graft = leb-true t.graft max_time r.6;
        mesh = leb-true t.mesh max_time r.7;
        empty = λ h. zero_topic_is t (then (eqb status 0) (zero_topic t) q.1 (eq-eqb status 0 h));
        outside = λ n.
            let z =
            both (eqb t.graft 0) (eqb t.mesh 0)
            (else (eqb t.member 1) (eqb t.graft 0 && eqb t.mesh 0) q.2 (ne_eqb t.member 1 n)) in
            (eqb-true t.graft 0 z.0, eqb-true t.mesh 0 z.1);
        retained = λ h.
            let z =
            both (eqb t.subscribed 0) (eqb t.member 0)
            (then (eqb status 2) (eqb t.subscribed 0 && eqb t.member 0) q.3 (eq-eqb status 2 h)) in
            (eqb-true t.subscribed 0 z.0, eqb-true t.member 0 z.1);
        inside = λ h.
            let z =
            all4 (eqb status 1) (eqb t.subscribed 1) (eqb explicit 0) (eqb joined 1)
            (then (eqb t.member 1) (eqb status 1 && eqb t.subscribed 1 && eqb explicit 0 && eqb joined 1) q.4
            (eq-eqb t.member 1 h)) in
            (eqb-true status 1 z.0, eqb-true t.subscribed 1 z.1, eqb-true explicit 0 z.2, eqb-true joined 1 z.3);
        times = leb-true (t.graft + t.mesh) clock q.5;
      }

  pub topic_holds :
      (t : TopicRecord) → TopicFacts status explicit joined clock c2 c3 t → topic_ok status explicit joined clock c2 c3 t ≡ true
  unfolding topic_ok topic_ranges empty_topic_ok outside_ok retained_ok member_ok times_ok
  topic_holds t f =
      let a : empty_topic_ok status t ≡ true =
      then_by (eqb status 0) (zero_topic t) (λ h. zero_topic_by t (f.empty (eqb-true status 0 h))) in
      let b : outside_ok t ≡ true =
      else_by (eqb t.member 1) (eqb t.graft 0 && eqb t.mesh 0) (λ n.
      let z = f.outside (eqb-false t.member 1 n) in
      rw (eq-eqb t.graft 0 z.0, eq-eqb t.mesh 0 z.1)) in
      let d : retained_ok status t ≡ true =
      then_by (eqb status 2) (eqb t.subscribed 0 && eqb t.member 0) (λ h.
      let z = f.retained (eqb-true status 2 h) in
      rw (eq-eqb t.subscribed 0 z.0, eq-eqb t.member 0 z.1)) in
      let g : member_ok status explicit joined t ≡ true =
      then_by (eqb t.member 1) (eqb status 1 && eqb t.subscribed 1 && eqb explicit 0 && eqb joined 1) (λ h.
      let z = f.inside (eqb-true t.member 1 h) in
      rw (eq-eqb status 1 z.0, eq-eqb t.subscribed 1 z.1, eq-eqb explicit 0 z.2, eq-eqb joined 1 z.3)) in
      rw (
        le-leb t.p2 c2 f.p2,
        le-leb t.p3 c3 f.p3,
        le-leb t.p4 1000000 f.p4,
        le-leb t.p3b 1000000000000 f.p3b,
        le-leb t.subscribed 1 f.subscribed,
        le-leb t.member 1 f.member,
        le-leb t.graft max_time f.graft,
        le-leb t.mesh max_time f.mesh,
        a,
        b,
        d,
        g,
        le-leb (t.graft + t.mesh) clock f.times,
      )

  -- the empty topic record fits everywhere
  pub no_topic_lem : TopicFacts status explicit joined clock c2 c3 no_topic
  no_topic_lem =
      record {
        p2 = omega arith;
        p3 = omega arith;
        p4 = omega arith;
        p3b = omega arith;
        subscribed = omega arith;
        member = omega arith;
        graft = omega arith;
        mesh = omega arith;
        empty = λ h. refl;
        outside = λ n. (refl, refl);
        retained = λ h. (refl, refl);
        inside = λ h. absurd (omega arith);
        times = omega arith;
      }

-- ---- the tables
abbrev pub FitsAt : State → (s status explicit t : ℕ) → Type 0
FitsAt st s status explicit t =
    TopicFacts status explicit (joined_in st t) st.clock (cap2 st t) (cap3 st t) (topic_in st (place s t))

pub record Facts (st : State) : Type 0 where
  pub params : Accepts st.setup.edition st.codes
  pub clock : st.clock ≤ max_time
  pub joined : (t : ℕ) → t < topic_count → joined_in st t ≤ 1
  pub peer : (s : ℕ) → s < slot_count → PeerFacts st.clock (peer_in st s)
  pub topic : (s t : ℕ) → s < slot_count → t < topic_count → FitsAt st s (peer_in st s).status (peer_in st s).explicit t
  pub ids : (s k : ℕ) → s < slot_count → k < s → (peer_in st k).id ≡ (peer_in st s).id → (peer_in st s).id ≡ 0

apart_is : (a b : ℕ) → apart a b ≡ true → b ≡ a → a ≡ 0
unfolding apart
apart_is a b e h =
    eqb-true a 0
    (not-false (eqb a 0)
    (either (eqb b a) (not (eqb a 0)) (not-true (eqb b a && not (eqb a 0)) e) (eq-eqb b a h)))
  where
    either : (p q : Bool) → p && q ≡ false → p ≡ true → q ≡ false
    either true q f g = f
    either false q f g = let z : ◌≡◌ {A = ℕ} 0 1 = cc in absurd (omega arith)

apart_by : (a b : ℕ) → (b ≡ a → a ≡ 0) → apart a b ≡ true
unfolding apart
apart_by a b h =
    by_test (apart a b ≡ true) (eqb b a)
    (λ t. rw (t, eq-eqb a 0 (h (eqb-true b a t))))
    (λ f. rw f)

pub valid_facts : (st : State) → valid st ≡ true → Facts st
unfolding valid joined_ok slot_ok topic_ok_at new_id
valid_facts st e =
    let q = all5 _ _ _ _ _ e in
    let slot :
    (s : ℕ) →
    s < slot_count →
    (peer_ok st.clock (peer_in st s) ≡ true)
    × (every topic_count (topic_ok_at st s (peer_in st s).status (peer_in st s).explicit) ≡ true) =
    λ s h. both (peer_ok st.clock (peer_in st s)) (every topic_count (topic_ok_at st s (peer_in st s).status (peer_in st s).explicit))
    (every_at (slot_ok st) slot_count s q.3 h) in
    record {
      params = record { passes = q.0 };
      clock = leb-true st.clock max_time q.1;
      joined = λ t h. leb-true (joined_in st t) 1 (every_at (joined_ok st) 8 t q.2 h);
      peer = λ s h. peer_facts st.clock (peer_in st s) (slot s h).0;
      topic = λ s t h k.
          topic_facts (peer_in st s).status (peer_in st s).explicit (joined_in st t) st.clock (cap2 st t) (cap3 st t)
          (topic_in st (place s t))
          (every_at (topic_ok_at st s (peer_in st s).status (peer_in st s).explicit) 8 t (slot s h).1 k);
      ids = λ s k h l.
          apart_is (peer_in st s).id (peer_in st k).id
          (every_at (λ j. apart (peer_in st s).id (peer_in st j).id) s k (every_at (new_id st) slot_count s q.4 h) l);
    }

pub facts_valid : (st : State) → Facts st → valid st ≡ true
unfolding valid joined_ok slot_ok topic_ok_at new_id
facts_valid st f =
    let j : every topic_count (joined_ok st) ≡ true = every_by (joined_ok st) 8 (λ t h. le-leb (joined_in st t) 1 (f.joined t h)) in
    let topics : (s : ℕ) → s < slot_count → every topic_count (topic_ok_at st s (peer_in st s).status (peer_in st s).explicit) ≡ true =
    λ s h. every_by (topic_ok_at st s (peer_in st s).status (peer_in st s).explicit) 8 (λ t k.
    topic_holds (peer_in st s).status (peer_in st s).explicit (joined_in st t) st.clock (cap2 st t) (cap3 st t) (topic_in st (place s t))
    (f.topic s t h k)) in
    let p : every slot_count (slot_ok st) ≡ true =
    every_by (slot_ok st) slot_count (λ s h. rw (peer_holds st.clock (peer_in st s) (f.peer s h), topics s h)) in
    let i : every slot_count (new_id st) ≡ true =
    every_by (new_id st) slot_count (λ s h.
    every_by (λ j. apart (peer_in st s).id (peer_in st j).id) s (λ k l. apart_by (peer_in st s).id (peer_in st k).id (f.ids s k h l))) in
    rw (f.params.passes, le-leb st.clock max_time f.clock, j, p, i)

-- ---- what the parameters add
