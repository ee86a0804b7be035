-- One field of a record, and a flag of all slots.
-- Assumes nothing.
use Prim.Native.Nat.{ℕ, zero, suc, ◌+◌, ◌*◌, ◌/◌, ◌%◌, ◌^◌, ◌≤◌, ◌<◌}
use mathlib.Core.Path.{◌≡◌, refl, sym, ap, ap₂, ◌∙◌}
use mathlib.Core.List.{List, [], ◌∷◌}
use native.Mathlib.Omega.{arith}
use lib.ListN.{get_or}
use Rattle.records.specs.declared.Groups.{Groups}
use Rattle.records.specs.declared.Peer.{Peer}
use Rattle.records.specs.declared.TopicRecord.{TopicRecord}
use Rattle.records.specs.Records.{peer_in, topic_in, place, slot_count, topic_count}
use Rattle.layout.specs.View.{stride, peers_at, column_of, ends_at, topics_at, member_at, graft_at, mesh_at, bit_at, live_at, peer_raw, ends_of}
use Rattle.layout.specs.View.{peer_at, state_of}
use Rattle.layout.proofs.DigitLaws.{digit_le}
use Rattle.layout.proofs.RowLaws.{get_or_tab}
use Rattle.layout.proofs.ViewLaws.{peer_load}
use Rattle.layout.proofs.CellLaws.{bits_are, graft_is, mesh_is, outside_none}

module _ (c : List ℕ) (s : ℕ) (h : s < slot_count) where
  abbrev p : Peer
  p = peer_in (state_of c) s

  raw_status : (peer_at c s).status ≡ bit_at c peers_at s + 2 * bit_at c (peers_at + 4) s
  unfolding peer_at peer_raw
  raw_status = refl

  raw_id : (peer_at c s).id ≡ live_at c s (column_of 0 s)
  unfolding peer_at peer_raw
  raw_id = refl

  raw_groups : (peer_at c s).groups
      ≡ record {
        first = live_at c s (column_of 1 s);
        second = live_at c s (column_of 2 s);
        third = live_at c s (column_of 3 s);
        fourth = live_at c s (column_of 4 s);
      }
  unfolding peer_at peer_raw
  raw_groups = refl

  raw_version : (peer_at c s).version ≡ bit_at c (peers_at + 16) s + 2 * bit_at c (peers_at + 20) s
  unfolding peer_at peer_raw
  raw_version = refl

  raw_retain : (peer_at c s).retain ≡ live_at c s (column_of 6 s)
  unfolding peer_at peer_raw
  raw_retain = refl

  raw_explicit : (peer_at c s).explicit ≡ bit_at c (peers_at + 8) s
  unfolding peer_at peer_raw
  raw_explicit = refl

  raw_outbound : (peer_at c s).outbound ≡ bit_at c (peers_at + 12) s
  unfolding peer_at peer_raw
  raw_outbound = refl

  pub status_load : (r a b : ℕ) → r ≡ a + 2 * b → a ≡ bit_at c peers_at s → b ≡ bit_at c (peers_at + 4) s → r ≡ p.status
  status_load r a b e f g =
      e ∙ ap₂ (λ (x y : ℕ). x + 2 * y) f g ∙ sym raw_status ∙ ap (λ (q : Peer). q.status) (peer_load c s h)

  pub id_load : (x : ℕ) → x ≡ live_at c s (column_of 0 s) → x ≡ p.id
  id_load x e = e ∙ sym raw_id ∙ ap (λ (q : Peer). q.id) (peer_load c s h)

  pub retain_load : (x : ℕ) → x ≡ live_at c s (column_of 6 s) → x ≡ p.retain
  retain_load x e = e ∙ sym raw_retain ∙ ap (λ (q : Peer). q.retain) (peer_load c s h)

  pub groups_load :
      (x y z w : ℕ) →
      x ≡ live_at c s (column_of 1 s) →
      y ≡ live_at c s (column_of 2 s) →
      z ≡ live_at c s (column_of 3 s) →
      w ≡ live_at c s (column_of 4 s) →
      record { first = x; second = y; third = z; fourth = w } ≡ p.groups
  groups_load x y z w e1 e2 e3 e4 =
      let q : ◌≡◌ {A = Groups} (record { first = x; second = y; third = z; fourth = w })
      (record {
        first = live_at c s (column_of 1 s);
        second = live_at c s (column_of 2 s);
        third = live_at c s (column_of 3 s);
        fourth = live_at c s (column_of 4 s);
      }) = λ i. record { first = e1 i; second = e2 i; third = e3 i; fourth = e4 i } in
      q ∙ sym raw_groups ∙ ap (λ (r : Peer). r.groups) (peer_load c s h)

  bit_le : (o : ℕ) → bit_at c o s ≤ 1
  unfolding bit_at
  bit_le o = digit_le (get_or c (o + s / 64) 0) (s % 64)

  status_is : p.status ≡ bit_at c peers_at s + 2 * bit_at c (peers_at + 4) s
  status_is = ap (λ (q : Peer). q.status) (sym (peer_load c s h)) ∙ raw_status

  version_is : p.version ≡ bit_at c (peers_at + 16) s + 2 * bit_at c (peers_at + 20) s
  version_is = ap (λ (q : Peer). q.version) (sym (peer_load c s h)) ∙ raw_version

  pub connected_bit : bit_at c peers_at s ≡ p.status % 2
  connected_bit = let l = bit_le peers_at in omega (arith, status_is)

  pub retained_bit : bit_at c (peers_at + 4) s ≡ p.status / 2
  retained_bit = let l = bit_le peers_at in omega (arith, status_is)

  pub version_bit : bit_at c (peers_at + 16) s ≡ p.version % 2
  version_bit = let l = bit_le (peers_at + 16) in omega (arith, version_is)

  pub version_high_bit : bit_at c (peers_at + 20) s ≡ p.version / 2
  version_high_bit = let l = bit_le (peers_at + 16) in omega (arith, version_is)

  raw_end : (t : ℕ) → t < 8 → get_or (peer_at c s).backoff t 0 ≡ live_at c s (ends_at + s * 8 + t)
  unfolding peer_at peer_raw ends_of
  raw_end t l = get_or_tab 8 (λ j. live_at c s (ends_at + s * 8 + j)) t 0 l

  pub end_load : (t x : ℕ) → t < 8 → x ≡ live_at c s (ends_at + s * 8 + t) → x ≡ get_or p.backoff t 0
  end_load t x l e = e ∙ sym (raw_end t l) ∙ ap (λ (q : Peer). get_or q.backoff t 0) (peer_load c s h)

  pub explicit_bit : bit_at c (peers_at + 8) s ≡ p.explicit
  explicit_bit = sym raw_explicit ∙ ap (λ (q : Peer). q.explicit) (peer_load c s h)

  pub outbound_bit : bit_at c (peers_at + 12) s ≡ p.outbound
  outbound_bit = sym raw_outbound ∙ ap (λ (q : Peer). q.outbound) (peer_load c s h)

  -- a flag of one bit
  pub explicit_le : p.explicit ≤ 1
  explicit_le = let l = bit_le (peers_at + 8) in omega (arith, explicit_bit)

  pub outbound_le : p.outbound ≤ 1
  outbound_le = let l = bit_le (peers_at + 12) in omega (arith, outbound_bit)

module _ (c : List ℕ) (t s : ℕ) (l : t < topic_count) (h : s < slot_count) where
  low : place s t % 8 ≡ t
  low = omega arith

  high : place s t / 8 ≡ s
  high = omega arith

  pub member_bit : bit_at c (member_at + t * 4) s ≡ (topic_in (state_of c) (place s t)).member
  member_bit =
      ap₂ (λ (x y : ℕ). bit_at c (member_at + x * 4) y) (sym low) (sym high) ∙ sym (bits_are c (place s t) (omega arith)).1

  pub subscribed_bit : bit_at c (topics_at + t * 4) s ≡ (topic_in (state_of c) (place s t)).subscribed
  subscribed_bit =
      ap₂ (λ (x y : ℕ). bit_at c (topics_at + x * 4) y) (sym low) (sym high) ∙ sym (bits_are c (place s t) (omega arith)).0

  abbrev r : TopicRecord
  r = topic_in (state_of c) (place s t)

  pub member_le : r.member ≤ 1
  unfolding bit_at
  member_le = let k = digit_le (get_or c (member_at + t * 4 + s / 64) 0) (s % 64) in omega (arith, member_bit)

  pub subscribed_le : r.subscribed ≤ 1
  unfolding bit_at
  subscribed_le = let k = digit_le (get_or c (topics_at + t * 4 + s / 64) 0) (s % 64) in omega (arith, subscribed_bit)

  -- a member's times, and a non-member's
  pub graft_load : r.member ≡ 1 → get_or c (graft_at + t * stride + s) 0 ≡ r.graft
  graft_load e =
      ap₂ (λ (x y : ℕ). get_or c (graft_at + x * stride + y) 0) (sym low) (sym high) ∙ sym (graft_is c (place s t) (omega arith) e)

  pub mesh_load : r.member ≡ 1 → get_or c (mesh_at + t * stride + s) 0 ≡ r.mesh
  mesh_load e =
      ap₂ (λ (x y : ℕ). get_or c (mesh_at + x * stride + y) 0) (sym low) (sym high) ∙ sym (mesh_is c (place s t) (omega arith) e)

  pub no_times : (r.member ≡ 1 → ⊥) → (r.graft ≡ 0) × (r.mesh ≡ 0)
  no_times n = outside_none c (place s t) (omega arith) n

-- four cells by value
four :
    (c : List ℕ) (o q : ℕ) →
    q < 4 →
    get_or (get_or c o 0 ∷ get_or c (o + 1) 0 ∷ get_or c (o + 2) 0 ∷ get_or c (o + 3) 0 ∷ []) q 0 ≡ get_or c (o + q) 0
four c o zero h = ap (λ n. get_or c n 0) (let e : o ≡ o + 0 = omega arith in e)
four c o (suc zero) h = refl
four c o (suc (suc zero)) h = refl
four c o (suc (suc (suc zero))) h = refl
four c o (suc (suc (suc (suc q)))) h = absurd (omega arith)

pub word_read :
    (c : List ℕ) (o s : ℕ) →
    s < slot_count →
    bit_at (get_or c o 0 ∷ get_or c (o + 1) 0 ∷ get_or c (o + 2) 0 ∷ get_or c (o + 3) 0 ∷ []) 0 s ≡ bit_at c o s
unfolding bit_at
word_read c o s h =
    let e : 0 + s / 64 ≡ s / 64 = omega arith in
    ap
    (λ n. get_or (get_or c o 0 ∷ get_or c (o + 1) 0 ∷ get_or c (o + 2) 0 ∷ get_or c (o + 3) 0 ∷ []) n 0 / 2 ^ (s % 64) % 2)
    e
    ∙ ap (λ x. x / 2 ^ (s % 64) % 2) (four c o (s / 64) (omega arith))
