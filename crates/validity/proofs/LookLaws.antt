-- The parts of the quick test (specs/Looks.antt) are test 12's rule of every slot: an empty slot is looked at whole, any other has each
-- fact from one part.
-- Assumes nothing.
use Prim.Native.Nat.{ℕ, ◌+◌, ◌*◌, ◌/◌, ◌%◌, ◌^◌, ◌≤◌, ◌<◌}
use mathlib.Core.Path.{◌≡◌, sym, ap, ◌∙◌, subst}
use mathlib.Core.Bool.{Bool, true, ◌&&◌, ◌||◌}
use mathlib.Core.List.{List}
use native.Mathlib.Omega.{arith}
use lib.ListN.{length, get_or}
use lib.Dec.{eqb, leb}
use borrow.Author.Tests.{eqb-true, eqb-false, ne_eqb, le-leb, leb-true}
use Rattle.index.specs.Index.{every}
use Rattle.index.proofs.Index.{both, every_by}
use Rattle.index.proofs.Flags.{by_test, by_order}
use Rattle.params.specs.Check.{accepted_codes}
use Rattle.records.specs.Records.{State, slot_count, topic_count, place, joined_in, peer_in, topic_in}
use Rattle.layout.specs.View.{cell_count, state_of, EmptyFrom, FlagsFrom}
use Rattle.layout.proofs.ReadLaws.{explicit_le, outbound_le, member_le, subscribed_le, no_times}
use Rattle.slot_words.specs.Flags.{FreeSlots}
use Rattle.slot_words.proofs.WordLaws.{at_word, each_word}
use Rattle.columns.specs.Within.{Named, OneGroup, NoRetain}
use Rattle.validity.specs.Valid.{max_time, max_end, max_group, max_retain, rising_ok, cap2, cap3, joined_ok, slot_ok, topic_ok_at, valid}
use Rattle.validity.specs.Order.{UpTo}
use Rattle.validity.specs.Looks.{WordsRight, ColumnsRight, GroupsAt, NameAt, RetainAt, HoleAt, SlotsRight, FreeIn, RecordsRight}
use Rattle.validity.proofs.Conditions.{else}
use Rattle.validity.proofs.ValidLaws.{PeerFacts, FitsAt, peer_holds, topic_holds}
use Rattle.validity.proofs.RestLaws.{slots_rest}

zero_or_one : (x : ℕ) → x ≤ 1 → (x ≡ 1 → ⊥) → x ≡ 0
zero_or_one x l n = by_order (x ≡ 0) x 1 (λ h. omega arith) (λ h. absurd (n (omega arith)))

module _ (c : List ℕ) (n : ℕ) (low : n ≤ slot_count) (w : WordsRight (state_of c) n) where
  abbrev st : State
  st = state_of c

  -- a connected peer's alone
  status_on : (s t : ℕ) → s < slot_count → t < topic_count → (topic_in st (place s t)).subscribed ≡ 1 → (peer_in st s).status ≡ 1
  status_on s t h k e =
      let a = (w.topics t k).connected s h e in
      let b = w.peers.status s h in
      omega arith

  no_subscription : (s t : ℕ) → s < slot_count → t < topic_count → ((peer_in st s).status ≡ 1 → ⊥) → (topic_in st (place s t)).subscribed ≡ 0
  no_subscription s t h k n = zero_or_one _ (subscribed_le c t s k h) (λ e. n (status_on s t h k e))

  no_member : (s t : ℕ) → s < slot_count → t < topic_count → ((peer_in st s).status ≡ 1 → ⊥) → (topic_in st (place s t)).member ≡ 0
  no_member s t h k n = zero_or_one _ (member_le c t s k h) (λ e. n (status_on s t h k ((w.topics t k).subscribed s h e)))

  off : (s : ℕ) → (peer_in st s).status ≡ 0 → (peer_in st s).status ≡ 1 → ⊥
  off s z e = omega arith

  pub rest_empty : FlagsFrom st n → EmptyFrom st n
  rest_empty f =
      record {
        peer = λ s l h.
            let z = w.peers.rest s l h in
            f.peer s l h z (w.peers.no_explicit s h z) (w.peers.no_outbound s h z) (w.peers.no_version s h z);
        topic = λ s t l h k.
            let z = w.peers.rest s l h in
            f.topic s t l h k (no_subscription s t h k (off s z)) (no_member s t h k (off s z));
      }

  pub up_to : length c ≡ cell_count → FlagsFrom st n → UpTo c n
  up_to e f = record { size = e; low = low; empty = rest_empty f }

  module _ (clock : st.clock ≤ max_time) (q : ColumnsRight st n (max_end st.clock)) (p : SlotsRight st n (max_retain st.clock)) where
    peer_right : (s : ℕ) → s < n → ((peer_in st s).status ≡ 0 → ⊥) → PeerFacts st.clock (peer_in st s)
    peer_right s l u =
        let h : s < slot_count = omega arith in
        record {
          status = w.peers.status s h;
          id = q.peers.id s l;
          groups = (p.groups s l).rising (q.peers.group s l);
          outbound = outbound_le c s h;
          explicit = explicit_le c s h;
          version = w.peers.version s h;
          p5 = q.peers.p5 s l;
          p7 = q.peers.p7 s l;
          retain = (p.retains s l).most;
          ends = λ t k. q.ends.end s t l k;
          used = (p.names s l).id;
          held = (p.names s l).group;
          empty = λ z. absurd (u z);
          over = (p.retains s l).over;
        }

    -- the times of a member, and of a non-member
    times_right :
        (s t : ℕ) → s < slot_count → t < topic_count → (topic_in st (place s t)).graft + (topic_in st (place s t)).mesh ≤ st.clock
    times_right s t h k =
        let r = topic_in st (place s t) in
        by_test (r.graft + r.mesh ≤ st.clock) (eqb r.member 1)
        (λ e. (w.times t k).times s h (eqb-true r.member 1 e))
        (λ e.
        let z = no_times c t s k h (eqb-false r.member 1 e) in
        let a = z.0 in
        let b = z.1 in
        omega arith)

    topic_right : (s t : ℕ) → s < n → t < topic_count → ((peer_in st s).status ≡ 0 → ⊥)
        → FitsAt st s (peer_in st s).status (peer_in st s).explicit t
    topic_right s t l k u =
        let h : s < slot_count = omega arith in
        let m = times_right s t h k in
        record {
          p2 = q.p2 s t l k;
          p3 = q.p3 s t l k;
          p4 = q.p4 s t l k;
          p3b = q.p3b s t l k;
          subscribed = subscribed_le c t s k h;
          member = member_le c t s k h;
          graft = omega arith;
          mesh = omega arith;
          empty = λ z. absurd (u z);
          outside = no_times c t s k h;
          retained = λ e.
              let o : (peer_in st s).status ≡ 1 → ⊥ = λ z. omega arith in
              (no_subscription s t h k o, no_member s t h k o);
          inside = λ e.
              let f = w.topics t k in
              let b = f.subscribed s h e in
              (status_on s t h k b, b, f.chosen s h e, f.joined s h e);
          times = m;
        }

    slot_right : (s : ℕ) → s < n → slot_ok st s ≡ true
    unfolding slot_ok topic_ok_at
    slot_right s l =
        by_test (slot_ok st s ≡ true) (eqb (peer_in st s).status 0)
        (λ e. (p.holes s l).empty (eqb-true (peer_in st s).status 0 e))
        (λ e.
        let u = eqb-false (peer_in st s).status 0 e in
        rw (
          peer_holds st.clock (peer_in st s) (peer_right s l u),
          every_by (topic_ok_at st s (peer_in st s).status (peer_in st s).explicit) topic_count (λ t k.
              topic_holds (peer_in st s).status (peer_in st s).explicit (joined_in st t) st.clock (cap2 st t) (cap3 st t)
              (topic_in st (place s t)) (topic_right s t l k u)),
        ))

    pub slots_told : FlagsFrom st n → every slot_count (slot_ok st) ≡ true
    slots_told f = slots_rest st n low (rest_empty f) (every_by (slot_ok st) n slot_right)

-- the limits from the clock that was loaded
pub ends_near : (st : State) (n k : ℕ) → k ≡ st.clock → ColumnsRight st n (k + 3600000) → ColumnsRight st n (max_end st.clock)
ends_near st n k e q = subst (λ (x : ℕ). ColumnsRight st n (x + 3600000)) e q

pub retains_near : (st : State) (n k : ℕ) → k ≡ st.clock → SlotsRight st n (k + 86400000) → SlotsRight st n (max_retain st.clock)
retains_near st n k e p = subst (λ (x : ℕ). SlotsRight st n (x + 86400000)) e p

-- ---- the caps of the topics

-- ---- slots, one by one
module _ (st : State) (s : ℕ) where
  pub name_told :
      (status id group : ℕ) →
      status ≡ (peer_in st s).status →
      id ≡ (peer_in st s).id →
      group ≡ (peer_in st s).groups.first →
      eqb status 0 || (leb 1 id && leb 1 group) ≡ true →
      NameAt st s
  name_told status id group es ei eg e =
      let has : ((peer_in st s).status ≡ 0 → ⊥) → (leb 1 id ≡ true) × (leb 1 group ≡ true) =
      λ n. both (leb 1 id) (leb 1 group) (else (eqb status 0) (leb 1 id && leb 1 group) e (ne_eqb status 0 (λ z. n (sym es ∙ z)))) in
      record {
        id = λ n. let h = leb-true 1 id (has n).0 in omega arith;
        group = λ n. let h = leb-true 1 group (has n).1 in omega arith;
      }

  pub retain_told :
      (m status retain : ℕ) →
      status ≡ (peer_in st s).status →
      retain ≡ (peer_in st s).retain →
      leb retain m && (eqb status 2 || eqb retain 0) ≡ true →
      RetainAt st m s
  retain_told m status retain es er e =
      let q = both (leb retain m) (eqb status 2 || eqb retain 0) e in
      record {
        most = let h = leb-true retain m q.0 in omega arith;
        over = λ n.
            sym er ∙ eqb-true retain 0 (else (eqb status 2) (eqb retain 0) q.1 (ne_eqb status 2 (λ z. n (sym es ∙ z))));
      }

-- one group, none after it
pub one_group_told : (st : State) (n : ℕ) → OneGroup st n → (s : ℕ) → s < n → GroupsAt st s
unfolding rising_ok
one_group_told st n o s l =
    record {
      rising = λ h. rw (le-leb (peer_in st s).groups.first max_group h, o.second s l, o.third s l, o.fourth s l);
    }

pub named_told : (st : State) (n : ℕ) → Named st n → (s : ℕ) → s < n → NameAt st s
named_told st n o s l = record { id = λ u. o.id s l; group = λ u. o.group s l }

pub no_retain_told : (st : State) (n m : ℕ) → NoRetain st n → (s : ℕ) → s < n → RetainAt st m s
no_retain_told st n m o s l = let z = o.retain s l in record { most = omega arith; over = λ u. z }

-- ---- empty slots by their bits
module _ (st : State) (w : List ℕ) (f : FreeSlots st w) where
  pub free_in : (i : ℕ) → i < 4 → FreeIn st i (get_or w i 0)
  free_in i h =
      record {
        empty = λ j l e.
            let s : ℕ = 64 * i + j in
            let b : s < slot_count = omega arith in
            let q : s / 64 ≡ i = omega arith in
            let r : s % 64 ≡ j = omega arith in
            f.empty s b (at_word w s ∙ rw (q, r) e);
      }

  pub holes_told :
      (n : ℕ) (b0 b1 b2 b3 : Bool) →
      n ≤ slot_count →
      (b0 ≡ true → (j : ℕ) → j < 64 → get_or w 0 0 / 2 ^ j % 2 ≡ 1 → 64 * 0 + j < n → slot_ok st (64 * 0 + j) ≡ true) →
      (b1 ≡ true → (j : ℕ) → j < 64 → get_or w 1 0 / 2 ^ j % 2 ≡ 1 → 64 * 1 + j < n → slot_ok st (64 * 1 + j) ≡ true) →
      (b2 ≡ true → (j : ℕ) → j < 64 → get_or w 2 0 / 2 ^ j % 2 ≡ 1 → 64 * 2 + j < n → slot_ok st (64 * 2 + j) ≡ true) →
      (b3 ≡ true → (j : ℕ) → j < 64 → get_or w 3 0 / 2 ^ j % 2 ≡ 1 → 64 * 3 + j < n → slot_ok st (64 * 3 + j) ≡ true) →
      b0 && b1 && b2 && b3 ≡ true →
      (s : ℕ) →
      s < n →
      HoleAt st s
  holes_told n b0 b1 b2 b3 low t0 t1 t2 t3 e s l =
      let q3 = both (b0 && b1 && b2) b3 e in
      let q2 = both (b0 && b1) b2 q3.0 in
      let q1 = both b0 b1 q2.0 in
      let h : s < slot_count = omega arith in
      let y : 64 * (s / 64) + s % 64 ≡ s = omega arith in
      record {
        empty = λ z.
            let b : get_or w (s / 64) 0 / 2 ^ (s % 64) % 2 ≡ 1 = sym (at_word w s) ∙ f.every s h z in
            let k : slot_ok st (64 * (s / 64) + s % 64) ≡ true =
            each_word (λ i j. get_or w i 0 / 2 ^ j % 2 ≡ 1 → 64 * i + j < n → slot_ok st (64 * i + j) ≡ true)
            (t0 q1.0) (t1 q1.1) (t2 q2.1) (t3 q3.1) s h b (omega arith) in
            ap (slot_ok st) (sym y) ∙ k;
      }

-- ---- the whole
pub valid_told :
    (st : State) (j : Bool) →
    st.clock ≤ max_time →
    accepted_codes st.setup.edition st.codes ≡ true →
    j ≡ every topic_count (joined_ok st) →
    j ≡ true →
    RecordsRight st →
    valid st ≡ true
unfolding valid
valid_told st j h p ej tj r = rw (p, le-leb st.clock max_time h, sym ej ∙ tj, r.slots h, r.ids)
