-- The tests of a topic record in the order of the code (specs/Order.antt) are test 12's (specs/Valid.antt).
-- Assumes nothing.
use Prim.Native.Nat.{ℕ, zero, suc, ◌+◌, ◌≤◌, ◌<◌}
use native.Mathlib.Nat.{le_trans, not-suc-le-zero}
use native.Mathlib.Numerals.{add-one}
use native.Mathlib.Omega.{arith}
use mathlib.Core.Path.{◌≡◌, refl, sym, ap, ◌∙◌}
use mathlib.Core.Bool.{Bool, true, false, ◌&&◌, and-false}
use lib.Dec.{eqb, leb, leb-zero}
use lib.ListN.{get_or}
use lib.Bits.{bit_or, or_add_and, and_le_l, and_le_r}
use borrow.Author.Tests.{eqb-true, eqb-false, le-leb, lt-leb, leb-true}
use Rattle.index.specs.Index.{every}
use Rattle.index.proofs.Index.{both, every_at, every_by, every_same}
use Rattle.index.proofs.Flags.{by_test, by_order}
use Rattle.params.specs.Check.{accepted_codes}
use Rattle.records.specs.Records.{State, slot_count, topic_count, place, joined_in, peer_in, topic_in}
use Rattle.records.specs.declared.Peer.{Peer}
use Rattle.records.specs.declared.TopicRecord.{TopicRecord}
use Rattle.validity.specs.Valid.{max_time, max_end, max_retain, peer_ranges, ends_up_to, used_ok, zero_peer, empty_ok, retain_ok, peer_ok}
use Rattle.validity.specs.Valid.{topic_ranges, empty_topic_ok, outside_ok, retained_ok, member_ok, times_ok, topic_ok, topic_ok_at, cap2, cap3}
use Rattle.validity.specs.Valid.{rising_ok, zero_groups, zero_topic, joined_ok, slot_ok, new_id, valid}
use Rattle.validity.specs.Order.{counter_ranges, flag_ranges, rest_ok, small_ok, Small, zero_topic_at}
use Rattle.validity.proofs.Conditions.{all3, all4, all8, all9}
use Rattle.validity.proofs.ValidLaws.{zero_groups_lem}

-- ---- the ranges, one after the other
module _ (cap2 cap3 : ℕ) (t : TopicRecord) where
  pub p2_over : cap2 < t.p2 → false ≡ counter_ranges cap2 cap3 t
  unfolding counter_ranges
  p2_over h = rw (lt-leb t.p2 cap2 h)

  pub p3_over : t.p2 ≤ cap2 → cap3 < t.p3 → false ≡ counter_ranges cap2 cap3 t
  unfolding counter_ranges
  p3_over a h = rw (le-leb t.p2 cap2 a, lt-leb t.p3 cap3 h)

  pub p4_over : t.p2 ≤ cap2 → t.p3 ≤ cap3 → 1000000 < t.p4 → false ≡ counter_ranges cap2 cap3 t
  unfolding counter_ranges
  p4_over a b h = rw (le-leb t.p2 cap2 a, le-leb t.p3 cap3 b, lt-leb t.p4 1000000 h)

  pub p3b_last : t.p2 ≤ cap2 → t.p3 ≤ cap3 → t.p4 ≤ 1000000 → leb t.p3b 1000000000000 ≡ counter_ranges cap2 cap3 t
  unfolding counter_ranges
  p3b_last a b c = rw (le-leb t.p2 cap2 a, le-leb t.p3 cap3 b, le-leb t.p4 1000000 c)

module _ (t : TopicRecord) where
  pub subscribed_over : 1 < t.subscribed → false ≡ flag_ranges t
  unfolding flag_ranges
  subscribed_over h = rw (lt-leb t.subscribed 1 h)

  pub member_over : t.subscribed ≤ 1 → 1 < t.member → false ≡ flag_ranges t
  unfolding flag_ranges
  member_over a h = rw (le-leb t.subscribed 1 a, lt-leb t.member 1 h)

  pub graft_over : t.subscribed ≤ 1 → t.member ≤ 1 → max_time < t.graft → false ≡ flag_ranges t
  unfolding flag_ranges
  graft_over a b h = rw (le-leb t.subscribed 1 a, le-leb t.member 1 b, lt-leb t.graft max_time h)

  pub mesh_last : t.subscribed ≤ 1 → t.member ≤ 1 → t.graft ≤ max_time → leb t.mesh max_time ≡ flag_ranges t
  unfolding flag_ranges
  mesh_last a b c = rw (le-leb t.subscribed 1 a, le-leb t.member 1 b, le-leb t.graft max_time c)

-- ---- all of them
eight : (a b c d e f g h : Bool) → a && b && c && d && e && f && g && h ≡ (a && b && c && d) && (e && f && g && h)
eight false b c d e f g h = refl
eight true false c d e f g h = refl
eight true true false d e f g h = refl
eight true true true false e f g h = refl
eight true true true true e f g h = refl

six : (a b c d e f : Bool) → a && b && c && d && e && f ≡ a && (b && c && d && e && f)
six false b c d e f = refl
six true b c d e f = refl

module _ (status explicit joined clock cap2 cap3 : ℕ) (t : TopicRecord) where
  parts :
      topic_ok status explicit joined clock cap2 cap3 t
      ≡ (counter_ranges cap2 cap3 t && flag_ranges t) && rest_ok status explicit joined clock t
  unfolding topic_ok topic_ranges counter_ranges flag_ranges rest_ok
  parts =
      six (topic_ranges cap2 cap3 t) (empty_topic_ok status t) (outside_ok t) (retained_ok status t) (member_ok status explicit joined t)
      (times_ok clock t)
      ∙ ap (λ (b : Bool). b && rest_ok status explicit joined clock t)
      (eight (leb t.p2 cap2) (leb t.p3 cap3) (leb t.p4 1000000) (leb t.p3b 1000000000000) (leb t.subscribed 1)
      (leb t.member 1) (leb t.graft max_time) (leb t.mesh max_time))

  pub counters_fail : counter_ranges cap2 cap3 t ≡ false → false ≡ topic_ok status explicit joined clock cap2 cap3 t
  counters_fail e = sym (parts ∙ rw e)

  module _ (c : counter_ranges cap2 cap3 t ≡ true) where
    pub flags_fail : flag_ranges t ≡ false → false ≡ topic_ok status explicit joined clock cap2 cap3 t
    flags_fail e = sym (parts ∙ rw (c, e))

    pub rest_is : flag_ranges t ≡ true → (r : Bool) → r ≡ rest_ok status explicit joined clock t → r
        ≡ topic_ok status explicit joined clock cap2 cap3 t
    rest_is f r e = e ∙ sym (parts ∙ rw (c, f))

-- ---- the union of bits: no number is above it
unfoldable pub union : (ℕ → ℕ) → ℕ → ℕ
union f zero = 0
union f (suc n) = bit_or (union f n) (f n)

in_left : (a b : ℕ) → a ≤ bit_or a b
in_left a b = omega (arith, or_add_and a b, and_le_r a b)

in_right : (a b : ℕ) → b ≤ bit_or a b
in_right a b = omega (arith, or_add_and a b, and_le_l a b)

module _ (f : ℕ → ℕ) where
  pub union_none : 0 ≡ union f 0
  unfolding union
  union_none = refl

  pub union_more : (i u v : ℕ) → u ≡ union f i → v ≡ f i → bit_or u v ≡ union f (i + 1)
  unfolding union
  union_more i u v p q = rw (add-one, p, q) refl

  pub under_union : (n k : ℕ) → k < n → f k ≤ union f n
  unfolding union
  under_union zero k h = absurd (not-suc-le-zero h)
  under_union (suc n) k h =
      by_order (f k ≤ bit_or (union f n) (f n)) k n
      (λ l. le_trans (under_union n k l) (in_left (union f n) (f n)))
      (λ l.
      let e : k ≡ n = omega arith in
      rw e (in_right (union f n) (f n)))

-- ---- a connected peer's record for a topic, with the ranges of `small_ok`
-- a test of `rest_ok` that fails
second : (a c d e : Bool) → a && false && c && d && e ≡ false
second true c d e = refl
second false c d e = refl

fourth : (a b c e : Bool) → a && b && c && false && e ≡ false
fourth true true true e = refl
fourth true true false e = refl
fourth true false c e = refl
fourth false b c e = refl

module _ (explicit joined clock cap2 cap3 : ℕ) (t : TopicRecord) where
  rest_fails : rest_ok 1 explicit joined clock t ≡ false → false ≡ topic_ok 1 explicit joined clock cap2 cap3 t
  rest_fails e = sym (parts 1 explicit joined clock cap2 cap3 t ∙ rw e (and-false (counter_ranges cap2 cap3 t && flag_ranges t)))

  pub p2_fails : cap2 < t.p2 → false ≡ topic_ok 1 explicit joined clock cap2 cap3 t
  p2_fails h = counters_fail 1 explicit joined clock cap2 cap3 t (sym (p2_over cap2 cap3 t h))

  pub p3_fails : t.p2 ≤ cap2 → cap3 < t.p3 → false ≡ topic_ok 1 explicit joined clock cap2 cap3 t
  p3_fails a h = counters_fail 1 explicit joined clock cap2 cap3 t (sym (p3_over cap2 cap3 t a h))

  module _ (small : small_ok t ≡ true) (a : t.p2 ≤ cap2) (b : t.p3 ≤ cap3) where
    known : (counter_ranges cap2 cap3 t ≡ true) × (leb t.subscribed 1 ≡ true)
    unfolding small_ok counter_ranges
    known =
        let q = all3 (leb t.p4 1000000) (leb t.p3b 1000000000000) (leb t.subscribed 1) small in
        (rw (le-leb t.p2 cap2 a, le-leb t.p3 cap3 b, q.0, q.1) refl, q.2)

    -- outside the mesh
    pub outside_is : bit_or (bit_or t.member t.graft) t.mesh ≡ 0 → true ≡ topic_ok 1 explicit joined clock cap2 cap3 t
    unfolding flag_ranges rest_ok empty_topic_ok outside_ok retained_ok member_ok times_ok
    outside_is z =
        let l = in_left (bit_or t.member t.graft) t.mesh in
        let em : t.member ≡ 0 = omega (arith, in_left t.member t.graft, l, z) in
        let eg : t.graft ≡ 0 = omega (arith, in_right t.member t.graft, l, z) in
        let es : t.mesh ≡ 0 = omega (arith, in_right (bit_or t.member t.graft) t.mesh, z) in
        let f : flag_ranges t ≡ true = rw (known.1, em, eg, es) refl in
        rest_is 1 explicit joined clock cap2 cap3 t known.0 f true (rw (em, eg, es, leb-zero clock) refl)

    -- in it
    pub inside_is :
        clock ≤ max_time →
        eqb t.member 1 && eqb t.subscribed 1 && eqb explicit 0 && eqb joined 1 ≡ true →
        (r : Bool) →
        r ≡ leb (t.graft + t.mesh) clock →
        r ≡ topic_ok 1 explicit joined clock cap2 cap3 t
    unfolding flag_ranges rest_ok empty_topic_ok outside_ok retained_ok member_ok times_ok
    inside_is l e r er =
        let q = all4 (eqb t.member 1) (eqb t.subscribed 1) (eqb explicit 0) (eqb joined 1) e in
        let P : Type 0 = leb (t.graft + t.mesh) clock ≡ topic_ok 1 explicit joined clock cap2 cap3 t in
        let rest : rest_ok 1 explicit joined clock t ≡ leb (t.graft + t.mesh) clock = rw (q.0, q.1, q.2, q.3) refl in
        er
        ∙ by_test P (leb (t.graft + t.mesh) clock)
        (λ y.
        let h = leb-true (t.graft + t.mesh) clock y in
        let f : flag_ranges t ≡ true =
        rw (known.1, eqb-true t.member 1 q.0, le-leb t.graft max_time (omega arith), le-leb t.mesh max_time (omega arith))
        refl in
        rest_is 1 explicit joined clock cap2 cap3 t known.0 f (leb (t.graft + t.mesh) clock) (sym rest))
        (λ n. n ∙ rest_fails (rest ∙ n))

  -- neither: times without membership, or a member that may not be one
  pub neither :
      (bit_or (bit_or t.member t.graft) t.mesh ≡ 0 → ⊥) →
      eqb t.member 1 && eqb t.subscribed 1 && eqb explicit 0 && eqb joined 1 ≡ false →
      false ≡ topic_ok 1 explicit joined clock cap2 cap3 t
  unfolding flag_ranges rest_ok outside_ok member_ok
  neither n e =
      let P : Type 0 = false ≡ topic_ok 1 explicit joined clock cap2 cap3 t in
      by_test P (eqb t.member 1)
      (λ m.
      let f : member_ok 1 explicit joined t ≡ false = rw m (sym (rw m refl) ∙ e) in
      rest_fails (rw f (fourth (empty_topic_ok 1 t) (outside_ok t) (retained_ok 1 t) (times_ok clock t))))
      (λ m.
      by_test P (eqb t.graft 0 && eqb t.mesh 0)
      (λ z.
      let w = both (eqb t.graft 0) (eqb t.mesh 0) z in
      let x = eqb-true t.graft 0 w.0 in
      let y = eqb-true t.mesh 0 w.1 in
      by_test P (leb t.member 1)
      (λ o.
      let l = leb-true t.member 1 o in
      let d = eqb-false t.member 1 m in
      let em : t.member ≡ 0 = omega arith in
      absurd (n (rw (em, x, y) refl)))
      (λ o.
      let f : flag_ranges t ≡ false =
      rw o (ap (λ (b : Bool). b && leb t.graft max_time && leb t.mesh max_time) (and-false (leb t.subscribed 1))) in
      sym (parts 1 explicit joined clock cap2 cap3 t
      ∙ rw f (ap (λ (b : Bool). b && rest_ok 1 explicit joined clock t) (and-false (counter_ranges cap2 cap3 t))))))
      (λ z.
      let f : outside_ok t ≡ false = rw (m, z) refl in
      rest_fails (rw f (second (empty_topic_ok 1 t) (retained_ok 1 t) (member_ok 1 explicit joined t) (times_ok clock t)))))

-- the three kinds of a slot, each by the union of its bits
module _ (st : State) (s : ℕ) where
  pub small_all :
      (n a b c : ℕ) →
      topic_count ≤ n →
      n ≤ topic_count →
      ends_up_to (max_end st.clock) (peer_in st s) ≡ true →
      a ≡ union (λ k. (topic_in st (place s k)).p4) n →
      b ≡ union (λ k. (topic_in st (place s k)).p3b) n →
      c ≡ union (λ k. (topic_in st (place s k)).subscribed) n →
      leb a 1000000 && leb b 1000000000000 && leb c 1 ≡ true →
      Small st s
  unfolding small_ok ends_up_to
  small_all n a b c l m ends ea eb ec e =
      let q = all3 (leb a 1000000) (leb b 1000000000000) (leb c 1) e in
      let x = leb-true a 1000000 q.0 in
      let y = leb-true b 1000000000000 q.1 in
      let z = leb-true c 1 q.2 in
      record {
        ends = ends;
        topics = λ t h.
            let r = topic_in st (place s t) in
            let i : t < n = omega arith in
            let u = under_union (λ k. (topic_in st (place s k)).p4) n t i in
            let v = under_union (λ k. (topic_in st (place s k)).p3b) n t i in
            let w = under_union (λ k. (topic_in st (place s k)).subscribed) n t i in
            rw (le-leb r.p4 1000000 (omega arith), le-leb r.p3b 1000000000000 (omega arith), le-leb r.subscribed 1 (omega arith))
            refl;
      }

-- ---- a connected peer's record
module _ (clock : ℕ) (p : Peer) where
  module _ (on : p.status ≡ 1) where
    parts_on : (used_ok p ≡ leb 1 p.id && leb 1 p.groups.first) × (empty_ok p ≡ true) × (retain_ok p ≡ eqb p.retain 0)
    unfolding used_ok empty_ok retain_ok
    parts_on = (rw on refl, rw on refl, rw on refl)

    turned : peer_ok clock p
        ≡ ((leb 1 p.id && leb 1 p.groups.first && eqb p.retain 0) && ends_up_to (max_end clock) p) && peer_ranges clock p
    unfolding peer_ok
    turned = rw (parts_on.0, parts_on.1, parts_on.2)
        (turn (peer_ranges clock p) (ends_up_to (max_end clock) p) (leb 1 p.id && leb 1 p.groups.first) (eqb p.retain 0))
      where
        turn : (a b c d : Bool) → a && b && c && true && d ≡ ((c && d) && b) && a
        turn true true true true = refl
        turn true true true false = refl
        turn true true false d = refl
        turn true false true true = refl
        turn true false true false = refl
        turn true false false d = refl
        turn false b c d = sym (and-false ((c && d) && b))

    pub id_fails : leb 1 p.id && leb 1 p.groups.first && eqb p.retain 0 ≡ false → false ≡ peer_ok clock p
    id_fails e = sym (turned ∙ rw e refl)

    pub ranges_are :
        leb 1 p.id && leb 1 p.groups.first && eqb p.retain 0 ≡ true →
        ends_up_to (max_end clock) p ≡ true →
        (r : Bool) →
        r ≡ peer_ranges clock p →
        r ≡ peer_ok clock p
    ranges_are a e r er = er ∙ sym (turned ∙ rw (a, e) refl)

-- ---- an empty slot: what is all zero passes every other test
module _ (clock : ℕ) (p : Peer) (none : p.status ≡ 0) where
  four : (a b c d : Bool) → a && b && c && false && d ≡ false
  four true true true d = refl
  four true true false d = refl
  four true false c d = refl
  four false b c d = refl

  not_empty : zero_peer p ≡ false → empty_ok p ≡ false
  unfolding empty_ok
  not_empty e =
      let h : eqb p.status 0 ≡ true = rw none refl in
      rw (h, e) refl

  peer_not : zero_peer p ≡ false → peer_ok clock p ≡ false
  unfolding peer_ok
  peer_not e = rw (not_empty e) (four (peer_ranges clock p) (ends_up_to (max_end clock) p) (used_ok p) (retain_ok p))

  peer_all : zero_peer p ≡ true → peer_ok clock p ≡ zero_peer p
  unfolding peer_ok peer_ranges rising_ok ends_up_to used_ok empty_ok retain_ok zero_peer zero_groups
  peer_all e =
      let q = all9 (eqb p.id 0) (zero_groups p.groups) (eqb p.outbound 0) (eqb p.explicit 0) (eqb p.version 0) (eqb p.p5 0)
      (eqb p.p7 0) (eqb p.retain 0) (ends_up_to 0 p) e in
      let ends : every topic_count (λ t. leb (get_or p.backoff t 0) (max_end clock)) ≡ true
      = every_by (λ t. leb (get_or p.backoff t 0) (max_end clock)) topic_count
      (λ t h. let l = leb-true (get_or p.backoff t 0) 0 (every_at (λ k. leb (get_or p.backoff k 0) 0) topic_count t q.8 h) in
      le-leb (get_or p.backoff t 0) (max_end clock) (omega arith)) in
      rw (
        ends,
        q.8,
        none,
        eqb-true p.id 0 q.0,
        zero_groups_lem p.groups q.1,
        eqb-true p.outbound 0 q.2,
        eqb-true p.explicit 0 q.3,
        eqb-true p.version 0 q.4,
        eqb-true p.p5 0 q.5,
        eqb-true p.p7 0 q.6,
        eqb-true p.retain 0 q.7,
        leb-zero (max_retain clock),
      ) refl

  pub zero_is : peer_ok clock p ≡ zero_peer p
  zero_is = by_test (peer_ok clock p ≡ zero_peer p) (zero_peer p) peer_all (λ e. peer_not e ∙ sym e)

module _ (explicit joined clock cap2 cap3 : ℕ) (t : TopicRecord) where
  topic_not : zero_topic t ≡ false → topic_ok 0 explicit joined clock cap2 cap3 t ≡ false
  unfolding rest_ok empty_topic_ok
  topic_not e =
      let f : rest_ok 0 explicit joined clock t ≡ false = rw e refl in
      parts 0 explicit joined clock cap2 cap3 t ∙ rw f (and-false (counter_ranges cap2 cap3 t && flag_ranges t))

  topic_all : zero_topic t ≡ true → topic_ok 0 explicit joined clock cap2 cap3 t ≡ zero_topic t
  unfolding topic_ok topic_ranges empty_topic_ok outside_ok retained_ok member_ok times_ok zero_topic
  topic_all e =
      let q = all8 (eqb t.p2 0) (eqb t.p3 0) (eqb t.p4 0) (eqb t.p3b 0) (eqb t.subscribed 0) (eqb t.member 0)
      (eqb t.graft 0) (eqb t.mesh 0) e in
      rw (
        eqb-true t.p2 0 q.0,
        eqb-true t.p3 0 q.1,
        eqb-true t.p4 0 q.2,
        eqb-true t.p3b 0 q.3,
        eqb-true t.subscribed 0 q.4,
        eqb-true t.member 0 q.5,
        eqb-true t.graft 0 q.6,
        eqb-true t.mesh 0 q.7,
        leb-zero cap2,
        leb-zero cap3,
        leb-zero clock,
      ) refl

  pub zero_topic_is : topic_ok 0 explicit joined clock cap2 cap3 t ≡ zero_topic t
  zero_topic_is = by_test (topic_ok 0 explicit joined clock cap2 cap3 t ≡ zero_topic t) (zero_topic t) topic_all (λ e. topic_not e ∙ sym e)

-- ---- a slot
module _ (st : State) (s : ℕ) where
  pub topic_told :
      (explicit t joined clock c2 c3 : ℕ) (u : TopicRecord) (r : Bool) →
      r ≡ topic_ok 1 explicit joined clock c2 c3 u →
      joined ≡ joined_in st t →
      clock ≡ st.clock →
      c2 ≡ cap2 st t →
      c3 ≡ cap3 st t →
      u ≡ topic_in st (place s t) →
      r ≡ topic_ok_at st s 1 explicit t
  unfolding topic_ok_at
  topic_told explicit t joined clock c2 c3 u r e ej ec e2 e3 eu = e ∙ rw (ej, ec, e2, e3, eu) refl

  pub peer_fails : peer_ok st.clock (peer_in st s) ≡ false → false ≡ slot_ok st s
  unfolding slot_ok
  peer_fails e = rw e refl

  pub topics_are :
      (peer_in st s).status ≡ 1 →
      peer_ok st.clock (peer_in st s) ≡ true →
      (b : Bool) →
      b ≡ every topic_count (topic_ok_at st s 1 (peer_in st s).explicit) →
      b ≡ slot_ok st s
  unfolding slot_ok
  topics_are on e b eb =
      eb ∙ ap (λ (x : ℕ). every topic_count (topic_ok_at st s x (peer_in st s).explicit)) (sym on) ∙ sym (rw e refl)

  pub zero_told : (t : ℕ) (u : TopicRecord) (r : Bool) → r ≡ zero_topic u → u ≡ topic_in st (place s t) → r ≡ zero_topic_at st s t
  unfolding zero_topic_at
  zero_told t u r e eu = e ∙ ap zero_topic eu

  pub zeros_are : (peer_in st s).status ≡ 0 → zero_peer (peer_in st s) ≡ true → (b : Bool) → b ≡ every topic_count (zero_topic_at st s) → b
      ≡ slot_ok st s
  unfolding slot_ok topic_ok_at zero_topic_at
  zeros_are none e b eb =
      let p = peer_in st s in
      eb
      ∙ every_same (zero_topic_at st s) (topic_ok_at st s 0 p.explicit) topic_count
      (λ t h. sym (zero_topic_is p.explicit (joined_in st t) st.clock (cap2 st t) (cap3 st t) (topic_in st (place s t))))
      ∙ ap (λ (x : ℕ). every topic_count (topic_ok_at st s x p.explicit)) (sym none)
      ∙ sym (rw (zero_is st.clock p none ∙ e) refl)

  pub zero_fails : (peer_in st s).status ≡ 0 → zero_peer (peer_in st s) ≡ false → false ≡ slot_ok st s
  zero_fails none e = peer_fails (zero_is st.clock (peer_in st s) none ∙ e)

-- ---- the tables, the clock asked first
module _ (st : State) where
  pub clock_fails : max_time < st.clock → false ≡ valid st
  unfolding valid
  clock_fails h =
      sym (rw (lt-leb st.clock max_time h)
      (second (accepted_codes st.setup.edition st.codes) (every topic_count (joined_ok st)) (every slot_count (slot_ok st))
      (every slot_count (new_id st))))

  pub clock_passes :
      st.clock ≤ max_time →
      (p j s i : Bool) →
      p ≡ accepted_codes st.setup.edition st.codes →
      j ≡ every topic_count (joined_ok st) →
      s ≡ every slot_count (slot_ok st) →
      i ≡ every slot_count (new_id st) →
      p && j && s && i ≡ valid st
  unfolding valid
  clock_passes h p j s i ep ej es ei =
      rw (ep, ej, es, ei, le-leb st.clock max_time h) (pass (accepted_codes st.setup.edition st.codes) _ _ _)
    where
      pass : (p j s i : Bool) → p && j && s && i ≡ p && true && j && s && i
      pass true j s i = refl
      pass false j s i = refl
