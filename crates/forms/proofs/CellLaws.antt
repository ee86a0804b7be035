-- Tables of one state have the same cells in use: a state's numbers say each cell that it is read from.
-- Assumes nothing.
use Prim.Native.Nat.{ℕ, zero, suc, ◌+◌, ◌*◌, ◌/◌, ◌%◌, ◌≤◌, ◌<◌}
use mathlib.Core.Path.{◌≡◌, refl, sym, ap, ◌∙◌}
use mathlib.Core.Bool.{true}
use mathlib.Core.List.{List}
use native.Mathlib.Omega.{arith}
use lib.ListN.{get_or}
use lib.Dec.{eqb}
use borrow.Author.Tests.{eq-eqb}
use Rattle.records.specs.declared.Peer.{Peer}
use Rattle.records.specs.declared.TopicRecord.{TopicRecord}
use Rattle.records.specs.Records.{State, slot_count, topic_count, joined_in, code_in, peer_in, topic_in}
use Rattle.varint.specs.Codes.{magnitude}
use Rattle.layout.specs.View.{place_count, word_cells, column_count, clock_at, setup_at, peers_at, ends_at, p3b_at, keep}
use Rattle.layout.specs.View.{bit_at, live_at, counter_of, graft_of, mesh_of, subscribed_word, member_word, topic_raw, topic_at, column_of, ends_of}
use Rattle.layout.specs.View.{peer_raw, peer_at, param_place, setup_of, state_of}
use Rattle.layout.proofs.DigitLaws.{digit_le}
use Rattle.layout.proofs.RowLaws.{get_or_tab}
use Rattle.layout.proofs.ViewLaws.{joined_load, peer_load, topic_load}
use Rattle.layout.proofs.ParamLaws.{magnitude_load}
use Rattle.forms.specs.Turns.{flag_count, SameCells}

bit_le : (c : List ℕ) (o s : ℕ) → bit_at c o s ≤ 1
unfolding bit_at
bit_le c o s = digit_le _ _

-- a number is its two halves, and its three lanes
halves_same : (x y : ℕ) → x % 4294967296 ≡ y % 4294967296 → x / 4294967296 ≡ y / 4294967296 → x ≡ y
halves_same x y a b = omega arith

lane_same : (x y : ℕ) → x % 2097152 ≡ y % 2097152 → x / 2097152 ≡ y / 2097152 → x ≡ y
lane_same x y a b = omega arith

lane_third : (x : ℕ) → x / 2097152 / 2097152 ≡ x / 4398046511104
lane_third x = omega arith

lanes_same :
    (x y : ℕ) →
    x % 2097152 ≡ y % 2097152 →
    x / 2097152 % 2097152 ≡ y / 2097152 % 2097152 →
    x / 4398046511104 ≡ y / 4398046511104 →
    x ≡ y
lanes_same x y a b e = lane_same x y a (lane_same (x / 2097152) (y / 2097152) b (lane_third x ∙ e ∙ sym (lane_third y)))

two_same : (a b x y : ℕ) → a ≤ 1 → x ≤ 1 → a + 2 * b ≡ x + 2 * y → (a ≡ x) × (b ≡ y)
two_same a b x y l m e = (omega arith, omega arith)

kept_same : (b : ℕ) (x y : ℕ) → b ≡ 1 → keep (eqb b 1) x ≡ keep (eqb b 1) y → x ≡ y
kept_same b x y e h = let t : eqb b 1 ≡ true = eq-eqb b 1 e in sym (rw t refl) ∙ h ∙ rw t refl

module _ (c d : List ℕ) (e : state_of c ≡ state_of d) where
  peer_same : (s : ℕ) → s < slot_count → peer_at c s ≡ peer_at d s
  peer_same s h = peer_load c s h ∙ ap (λ (st : State). peer_in st s) e ∙ sym (peer_load d s h)

  topic_same : (k : ℕ) → k < place_count → topic_at c k ≡ topic_at d k
  topic_same k h = topic_load c k h ∙ ap (λ (st : State). topic_in st k) e ∙ sym (topic_load d k h)

  status_same : (s : ℕ) → s < slot_count → (bit_at c peers_at s ≡ bit_at d peers_at s) × (bit_at c (peers_at + 4) s ≡ bit_at d (peers_at + 4) s)
  unfolding peer_at peer_raw
  status_same s h =
      two_same _ _ _ _ (bit_le c peers_at s) (bit_le d peers_at s) (ap (λ (p : Peer). p.status) (peer_same s h))

  version_same :
      (s : ℕ) →
      s < slot_count →
      (bit_at c (peers_at + 16) s ≡ bit_at d (peers_at + 16) s) × (bit_at c (peers_at + 20) s ≡ bit_at d (peers_at + 20) s)
  unfolding peer_at peer_raw
  version_same s h =
      two_same _ _ _ _ (bit_le c (peers_at + 16) s) (bit_le d (peers_at + 16) s) (ap (λ (p : Peer). p.version) (peer_same s h))

  flags_same : (p s : ℕ) → p < flag_count → s < slot_count → bit_at c (peers_at + p * word_cells) s ≡ bit_at d (peers_at + p * word_cells) s
  unfolding peer_at peer_raw
  flags_same zero s l h = (status_same s h).0
  flags_same (suc zero) s l h = (status_same s h).1
  flags_same (suc (suc zero)) s l h = ap (λ (p : Peer). p.explicit) (peer_same s h)
  flags_same (suc (suc (suc zero))) s l h = ap (λ (p : Peer). p.outbound) (peer_same s h)
  flags_same (suc (suc (suc (suc zero)))) s l h = (version_same s h).0
  flags_same (suc (suc (suc (suc (suc zero))))) s l h = (version_same s h).1
  flags_same (suc (suc (suc (suc (suc (suc p)))))) s l h = absurd (omega arith)

  columns_same : (j s : ℕ) → j < column_count → s < slot_count → live_at c s (column_of j s) ≡ live_at d s (column_of j s)
  unfolding peer_at peer_raw
  columns_same zero s l h = ap (λ (p : Peer). p.id) (peer_same s h)
  columns_same (suc zero) s l h = ap (λ (p : Peer). p.groups.first) (peer_same s h)
  columns_same (suc (suc zero)) s l h = ap (λ (p : Peer). p.groups.second) (peer_same s h)
  columns_same (suc (suc (suc zero))) s l h = ap (λ (p : Peer). p.groups.third) (peer_same s h)
  columns_same (suc (suc (suc (suc zero)))) s l h = ap (λ (p : Peer). p.groups.fourth) (peer_same s h)
  columns_same (suc (suc (suc (suc (suc zero))))) s l h =
      halves_same _ _ (ap (λ (p : Peer). p.p5) (peer_same s h)) (ap (λ (p : Peer). p.p7) (peer_same s h))
  columns_same (suc (suc (suc (suc (suc (suc zero)))))) s l h = ap (λ (p : Peer). p.retain) (peer_same s h)
  columns_same (suc (suc (suc (suc (suc (suc (suc j))))))) s l h = absurd (omega arith)

  ends_same : (s t : ℕ) → s < slot_count → t < topic_count → live_at c s (ends_at + s * 8 + t) ≡ live_at d s (ends_at + s * 8 + t)
  unfolding peer_at peer_raw ends_of
  ends_same s t h l =
      sym (get_or_tab 8 (λ k. live_at c s (ends_at + s * 8 + k)) t 0 l)
      ∙ ap (λ (p : Peer). get_or p.backoff t 0) (peer_same s h)
      ∙ get_or_tab 8 (λ k. live_at d s (ends_at + s * 8 + k)) t 0 l

  subscribed_same : (k : ℕ) → k < place_count → bit_at c (subscribed_word k) (k / 8) ≡ bit_at d (subscribed_word k) (k / 8)
  unfolding topic_at topic_raw
  subscribed_same k h = ap (λ (t : TopicRecord). t.subscribed) (topic_same k h)

  member_same : (k : ℕ) → k < place_count → bit_at c (member_word k) (k / 8) ≡ bit_at d (member_word k) (k / 8)
  unfolding topic_at topic_raw
  member_same k h = ap (λ (t : TopicRecord). t.member) (topic_same k h)

  counters_same : (k : ℕ) → k < place_count → live_at c (k / 8) (counter_of k) ≡ live_at d (k / 8) (counter_of k)
  unfolding topic_at topic_raw
  counters_same k h =
      lanes_same _ _
      (ap (λ (t : TopicRecord). t.p2) (topic_same k h))
      (ap (λ (t : TopicRecord). t.p3) (topic_same k h))
      (ap (λ (t : TopicRecord). t.p4) (topic_same k h))

  p3b_same : (k : ℕ) → k < place_count → live_at c (k / 8) (p3b_at + k) ≡ live_at d (k / 8) (p3b_at + k)
  unfolding topic_at topic_raw
  p3b_same k h = ap (λ (t : TopicRecord). t.p3b) (topic_same k h)

  -- the times of a member
  times_same :
      (k : ℕ) →
      k < place_count →
      bit_at c (member_word k) (k / 8) ≡ 1 →
      (get_or c (graft_of k) 0 ≡ get_or d (graft_of k) 0) × (get_or c (mesh_of k) 0 ≡ get_or d (mesh_of k) 0)
  unfolding topic_at topic_raw
  times_same k h m =
      let b : bit_at d (member_word k) (k / 8) ≡ bit_at c (member_word k) (k / 8) = sym (member_same k h) in (
        kept_same (bit_at c (member_word k) (k / 8)) (get_or c (graft_of k) 0) (get_or d (graft_of k) 0) m
            (ap (λ (t : TopicRecord). t.graft) (topic_same k h) ∙ ap (λ (n : ℕ). keep (eqb n 1) (get_or d (graft_of k) 0)) b),
        kept_same (bit_at c (member_word k) (k / 8)) (get_or c (mesh_of k) 0) (get_or d (mesh_of k) 0) m
            (ap (λ (t : TopicRecord). t.mesh) (topic_same k h) ∙ ap (λ (n : ℕ). keep (eqb n 1) (get_or d (mesh_of k) 0)) b),
      )

  clock_same : get_or c clock_at 0 ≡ get_or d clock_at 0
  unfolding state_of
  clock_same = ap (λ (st : State). st.clock) e

  setup_same : get_or c setup_at 0 ≡ get_or d setup_at 0
  unfolding state_of setup_of
  setup_same = ap (λ (st : State). st.setup.edition) e

  pub same_cells : SameCells c d
  same_cells =
      record {
        clock = clock_same;
        joined = λ t l. joined_load c t l ∙ ap (λ (st : State). joined_in st t) e ∙ sym (joined_load d t l);
        setup = setup_same;
        params = λ i l.
            (magnitude_load c i (param_place i) l refl).0
            ∙ ap (λ (st : State). magnitude (code_in st i)) e
            ∙ sym (magnitude_load d i (param_place i) l refl).0;
        flags = flags_same;
        columns = columns_same;
        ends = ends_same;
        subscribed = subscribed_same;
        member = member_same;
        counters = counters_same;
        p3b = p3b_same;
        graft = λ k h m. (times_same k h m).0;
        mesh = λ k h m. (times_same k h m).1;
      }
