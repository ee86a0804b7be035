-- The state fixes every cell in use: each is a function of the state.
-- Assumes nothing.
use Prim.Native.Nat.{ℕ, ◌+◌, ◌*◌, ◌/◌, ◌%◌, ◌<◌}
use mathlib.Core.Path.{◌≡◌, refl, sym, ap, ◌∙◌}
use mathlib.Core.List.{List}
use native.Mathlib.Omega.{arith}
use lib.ListN.{get_or}
use borrow.Author.Tests.{eq-eqb, ne_eqb}
use Rattle.records.specs.declared.Peer.{Peer}
use Rattle.records.specs.declared.TopicRecord.{TopicRecord}
use Rattle.records.specs.Records.{peer_in, topic_in}
use Rattle.layout.proofs.RowLaws.{get_or_tab}
use Rattle.records.specs.Records.{slot_count}
use Rattle.layout.specs.View.{place_count, column_of, ends_at, p3b_at, bit_at, used_of, live_at, counter_of, graft_of, mesh_of}
use Rattle.layout.specs.View.{subscribed_word, member_word, topic_raw, topic_at, peer_raw, ends_of, peer_at, state_of}
use Rattle.layout.proofs.ViewLaws.{live_in, topic_load, peer_load}
use Rattle.layout.proofs.PlaceLaws.{packed}

-- ---- lanes

lanes_whole : (x : ℕ) → x % 2097152 + x / 2097152 % 2097152 * 2097152 + x / 4398046511104 * 4398046511104 ≡ x
lanes_whole x = omega arith

halves_whole : (x : ℕ) → x % 4294967296 + x / 4294967296 * 4294967296 ≡ x
halves_whole x = omega arith

module _ (c : List ℕ) (k : ℕ) (h : k < place_count) where
  raw_counters : packed (topic_at c k) ≡ live_at c (k / 8) (counter_of k)
  unfolding topic_at topic_raw
  raw_counters = lanes_whole (live_at c (k / 8) (counter_of k))

  raw_p3b : (topic_at c k).p3b ≡ live_at c (k / 8) (p3b_at + k)
  unfolding topic_at topic_raw
  raw_p3b = refl

  raw_graft : (topic_at c k).member ≡ 1 → (topic_at c k).graft ≡ get_or c (graft_of k) 0
  unfolding topic_at topic_raw
  raw_graft e = rw (eq-eqb (bit_at c (member_word k) (k / 8)) 1 e)

  raw_mesh : (topic_at c k).member ≡ 1 → (topic_at c k).mesh ≡ get_or c (mesh_of k) 0
  unfolding topic_at topic_raw
  raw_mesh e = rw (eq-eqb (bit_at c (member_word k) (k / 8)) 1 e)

  raw_bits : ((topic_at c k).subscribed ≡ bit_at c (subscribed_word k) (k / 8)) × ((topic_at c k).member ≡ bit_at c (member_word k) (k / 8))
  unfolding topic_at topic_raw
  raw_bits = (refl, refl)

  abbrev r : TopicRecord
  r = topic_in (state_of c) k

  pub counters_are : k / 8 < used_of c → packed r ≡ get_or c (counter_of k) 0
  counters_are u = ap packed (sym (topic_load c k h)) ∙ raw_counters ∙ live_in c (k / 8) (counter_of k) u

  pub p3b_is : k / 8 < used_of c → r.p3b ≡ get_or c (p3b_at + k) 0
  p3b_is u = ap (λ (t : TopicRecord). t.p3b) (sym (topic_load c k h)) ∙ raw_p3b ∙ live_in c (k / 8) (p3b_at + k) u

  pub graft_is : r.member ≡ 1 → r.graft ≡ get_or c (graft_of k) 0
  graft_is e =
      let q = topic_load c k h in
      ap (λ (t : TopicRecord). t.graft) (sym q) ∙ raw_graft (ap (λ (t : TopicRecord). t.member) q ∙ e)

  pub mesh_is : r.member ≡ 1 → r.mesh ≡ get_or c (mesh_of k) 0
  mesh_is e =
      let q = topic_load c k h in
      ap (λ (t : TopicRecord). t.mesh) (sym q) ∙ raw_mesh (ap (λ (t : TopicRecord). t.member) q ∙ e)

  raw_outside : ((topic_at c k).member ≡ 1 → ⊥) → ((topic_at c k).graft ≡ 0) × ((topic_at c k).mesh ≡ 0)
  unfolding topic_at topic_raw
  raw_outside n = let f = ne_eqb (bit_at c (member_word k) (k / 8)) 1 n in (rw f, rw f)

  pub outside_none : (r.member ≡ 1 → ⊥) → (r.graft ≡ 0) × (r.mesh ≡ 0)
  outside_none n =
      let q = sym (topic_load c k h) in
      let z = raw_outside (λ e. n (ap (λ (t : TopicRecord). t.member) q ∙ e)) in
      (ap (λ (t : TopicRecord). t.graft) q ∙ z.0, ap (λ (t : TopicRecord). t.mesh) q ∙ z.1)

  pub bits_are : (r.subscribed ≡ bit_at c (subscribed_word k) (k / 8)) × (r.member ≡ bit_at c (member_word k) (k / 8))
  bits_are =
      let q = sym (topic_load c k h) in
      (ap (λ (t : TopicRecord). t.subscribed) q ∙ raw_bits.0, ap (λ (t : TopicRecord). t.member) q ∙ raw_bits.1)

module _ (c : List ℕ) (s : ℕ) (h : s < slot_count) (u : s < used_of c) where
  raw_id : (peer_at c s).id ≡ live_at c s (column_of 0 s)
  unfolding peer_at peer_raw
  raw_id = refl

  raw_p57 : (peer_at c s).p5 + (peer_at c s).p7 * 4294967296 ≡ live_at c s (column_of 5 s)
  unfolding peer_at peer_raw
  raw_p57 = halves_whole (live_at c s (column_of 5 s))

  raw_end : (t : ℕ) → t < 8 → get_or (peer_at c s).backoff t 0 ≡ live_at c s (ends_at + s * 8 + t)
  unfolding peer_at peer_raw ends_of
  raw_end t l = get_or_tab 8 (λ j. live_at c s (ends_at + s * 8 + j)) t 0 l

  abbrev p : Peer
  p = peer_in (state_of c) s

  pub id_is : p.id ≡ get_or c (column_of 0 s) 0
  id_is = ap (λ (q : Peer). q.id) (sym (peer_load c s h)) ∙ raw_id ∙ live_in c s (column_of 0 s) u

  pub p57_is : p.p5 + p.p7 * 4294967296 ≡ get_or c (column_of 5 s) 0
  p57_is = ap (λ (q : Peer). q.p5 + q.p7 * 4294967296) (sym (peer_load c s h)) ∙ raw_p57 ∙ live_in c s (column_of 5 s) u

  pub end_is : (t : ℕ) → t < 8 → get_or p.backoff t 0 ≡ get_or c (ends_at + s * 8 + t) 0
  end_is t l = ap (λ (q : Peer). get_or q.backoff t 0) (sym (peer_load c s h)) ∙ raw_end t l ∙ live_in c s (ends_at + s * 8 + t) u
