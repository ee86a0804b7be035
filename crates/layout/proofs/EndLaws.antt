-- Where the records end: past the mark a record is its bits alone.
-- Assumes nothing.
use Prim.Native.Nat.{ℕ, zero, suc, ◌+◌, ◌*◌, ◌-◌, ◌/◌, ◌%◌, ◌^◌, ◌≤◌, ◌<◌}
use mathlib.Core.Path.{◌≡◌, refl, sym, ap, ◌∙◌}
use mathlib.Core.List.{List}
use native.Mathlib.Omega.{arith}
use native.Mathlib.Nat.{zero-div}
use lib.ListN.{get_or}
use lib.Bits.{bit_or, or_add_and, and_le_l, and_le_r}
use lib.Pow.{shr-shr}
use Rattle.index.proofs.Flags.{by_order}
use Rattle.records.specs.Records.{no_peer, no_topic, place, peer_in, slot_count, topic_count}
use Rattle.layout.specs.Rows.{tab}
use Rattle.layout.specs.View.{peers_at, column_of, ends_at, topics_at, member_at, p3b_at, bit_at, used_of, live_at}
use Rattle.layout.specs.View.{counter_of, graft_of, mesh_of, subscribed_word, member_word, topic_raw, topic_at, peer_raw, ends_of, peer_at}
use Rattle.layout.specs.View.{state_of}
use Rattle.layout.specs.View.{EmptyFrom, FlagsFrom}
use Rattle.layout.proofs.RowLaws.{tab_same}
use Rattle.layout.proofs.ViewLaws.{live_out, peer_load, topic_load}
use Rattle.layout.proofs.ReadLaws.{connected_bit, retained_bit, explicit_bit, outbound_bit, version_bit, version_high_bit}
use Rattle.layout.proofs.ReadLaws.{member_bit}
use Rattle.layout.proofs.ReadLaws.{subscribed_bit}

-- ---- one word
pub or_none : (a b : ℕ) → bit_or a b ≡ 0 → (a ≡ 0) × (b ≡ 0)
or_none a b e =
    let s = or_add_and a b in
    let l = and_le_l a b in
    let r = and_le_r a b in
    (omega arith, omega arith)

none_bit : (j : ℕ) → 0 / 2 ^ j % 2 ≡ 0
none_bit j = ap (λ (n : ℕ). n % 2) (zero-div (2 ^ j))

shifted_none : (w k j : ℕ) → w / 2 ^ k ≡ 0 → k ≤ j → w / 2 ^ j % 2 ≡ 0
shifted_none w k j e h =
    let d : j ≡ k + (j - k) = omega arith in
    ap (λ (n : ℕ). w / 2 ^ n % 2) d
    ∙ ap (λ (n : ℕ). n % 2) (sym (shr-shr w k (j - k)))
    ∙ ap (λ (n : ℕ). n / 2 ^ (j - k) % 2) e
    ∙ none_bit (j - k)

-- the ends of `past_word`
pub past_all : (w i used : ℕ) → w ≡ 0 → (s : ℕ) → s / 64 ≡ i → used ≤ s → w / 2 ^ (s % 64) % 2 ≡ 0
past_all w i used e s h l = ap (λ (n : ℕ). n / 2 ^ (s % 64) % 2) e ∙ none_bit (s % 64)

pub past_none : (w i used : ℕ) → 64 * i < used → 63 < used - 64 * i → (s : ℕ) → s / 64 ≡ i → used ≤ s → w / 2 ^ (s % 64) % 2 ≡ 0
past_none w i used a b s h l = absurd (omega arith)

pub past_some :
    (w i used : ℕ) → 64 * i < used → w / 2 ^ (used - 64 * i) ≡ 0 → (s : ℕ) → s / 64 ≡ i → used ≤ s → w / 2 ^ (s % 64) % 2 ≡ 0
past_some w i used a e s h l = shifted_none w (used - 64 * i) (s % 64) e (omega arith)

-- ---- four words
pub past_four :
    (c : List ℕ) (o used a b d e : ℕ) →
    (a ≡ 0 → (s : ℕ) → s / 64 ≡ 0 → used ≤ s → get_or c o 0 / 2 ^ (s % 64) % 2 ≡ 0) →
    (b ≡ 0 → (s : ℕ) → s / 64 ≡ 1 → used ≤ s → get_or c (o + 1) 0 / 2 ^ (s % 64) % 2 ≡ 0) →
    (d ≡ 0 → (s : ℕ) → s / 64 ≡ 2 → used ≤ s → get_or c (o + 2) 0 / 2 ^ (s % 64) % 2 ≡ 0) →
    (e ≡ 0 → (s : ℕ) → s / 64 ≡ 3 → used ≤ s → get_or c (o + 3) 0 / 2 ^ (s % 64) % 2 ≡ 0) →
    bit_or (bit_or (bit_or a b) d) e ≡ 0 →
    (s : ℕ) →
    s < slot_count →
    used ≤ s →
    bit_at c o s ≡ 0
unfolding bit_at
past_four c o used a b d e fa fb fd fe z s h l =
    let z3 = or_none (bit_or (bit_or a b) d) e z in
    let z2 = or_none (bit_or a b) d z3.0 in
    let z1 = or_none a b z2.0 in
    go (s / 64) refl (omega arith)
  where
    go : (q : ℕ) → s / 64 ≡ q → q < 4 → get_or c (o + s / 64) 0 / 2 ^ (s % 64) % 2 ≡ 0
    go zero p m =
        let z3 = or_none (bit_or (bit_or a b) d) e z in
        let z2 = or_none (bit_or a b) d z3.0 in
        let t : o + s / 64 ≡ o = omega arith in
        rw t (fa (or_none a b z2.0).0 s p l)
    go (suc zero) p m =
        let z3 = or_none (bit_or (bit_or a b) d) e z in
        let z2 = or_none (bit_or a b) d z3.0 in
        rw p (fb (or_none a b z2.0).1 s p l)
    go (suc (suc zero)) p m = rw p (fd (or_none (bit_or a b) d (or_none (bit_or (bit_or a b) d) e z).0).1 s p l)
    go (suc (suc (suc zero))) p m = rw p (fe (or_none (bit_or (bit_or a b) d) e z).1 s p l)
    go (suc (suc (suc (suc q)))) p m = absurd (omega arith)

-- ---- n words, turn by turn
abbrev pub Past : List ℕ → ℕ → ℕ → ℕ → Type 0
Past c o used n = (p s : ℕ) → p < n → s < slot_count → used ≤ s → bit_at c (o + p * 4) s ≡ 0

pub past_more :
    (c : List ℕ) (o used n acc r : ℕ) →
    (acc ≡ 0 → Past c o used n) →
    (r ≡ 0 → (s : ℕ) → s < slot_count → used ≤ s → bit_at c (o + n * 4) s ≡ 0) →
    bit_or acc r ≡ 0 →
    Past c o used (n + 1)
past_more c o used n acc r f g z p s h k l =
    let e = or_none acc r z in
    by_order (bit_at c (o + p * 4) s ≡ 0) p n
    (λ (m : p < n). f e.0 p s m k l)
    (λ (m : n ≤ p).
    let q : p ≡ n = omega arith in
    rw q (g e.1 s k l))

-- ---- the records
module _ (c : List ℕ) (used : ℕ) (u : used_of c ≡ used) where
  dead : (s x : ℕ) → used ≤ s → live_at c s x ≡ 0
  dead s x l = live_out c s x (omega arith)

  peer_none : (s : ℕ) → used ≤ s → ((p : ℕ) → p < 6 → bit_at c (peers_at + p * 4) s ≡ 0) → peer_at c s ≡ no_peer
  unfolding peer_at peer_raw ends_of
  peer_none s l b =
      let e : tab 8 (λ t. live_at c s (ends_at + s * 8 + t)) ≡ tab 8 (λ t. 0) =
      tab_same 8 (λ t. live_at c s (ends_at + s * 8 + t)) (λ t. 0) (λ t k. dead s (ends_at + s * 8 + t) l) in
      let b0 = b 0 (omega arith) in
      let b1 = b 1 (omega arith) in
      let b2 = b 2 (omega arith) in
      let b3 = b 3 (omega arith) in
      let b4 = b 4 (omega arith) in
      let b5 = b 5 (omega arith) in
      let d : (j : ℕ) → live_at c s (column_of j s) ≡ 0 = λ j. dead s (column_of j s) l in
      λ i. peer_raw (b0 i) (b1 i) (b2 i) (b3 i) (b4 i) (b5 i) (d 0 i) (d 1 i) (d 2 i) (d 3 i) (d 4 i) (d 5 i) (d 6 i) (e i)

  topic_none :
      (s t : ℕ) →
      used ≤ s →
      t < topic_count →
      bit_at c (topics_at + t * 4) s ≡ 0 →
      bit_at c (member_at + t * 4) s ≡ 0 →
      topic_at c (place s t) ≡ no_topic
  unfolding topic_at topic_raw
  topic_none s t l k b m =
      let q : place s t / 8 ≡ s = omega arith in
      let r : place s t % 8 ≡ t = omega arith in
      let x : bit_at c (subscribed_word (place s t)) (place s t / 8) ≡ 0 = rw (q, r) b in
      let y : bit_at c (member_word (place s t)) (place s t / 8) ≡ 0 = rw (q, r) m in
      let d : (n : ℕ) → live_at c (place s t / 8) n ≡ 0 = λ n. rw q (dead s n l) in
      λ i. topic_raw (d (counter_of (place s t)) i) (d (p3b_at + place s t) i) (x i) (y i) (get_or c (graft_of (place s t)) 0)
      (get_or c (mesh_of (place s t)) 0)

  pub empty_from : Past c peers_at used 6 → Past c topics_at used 16 → EmptyFrom (state_of c) used
  empty_from a b =
      record {
        peer = λ s l h. sym (peer_load c s h) ∙ peer_none s l (λ p m. a p s m h l);
        topic = λ s t l h k.
            let w : topics_at + (8 + t) * 4 ≡ member_at + t * 4 = omega arith in
            let y : bit_at c (member_at + t * 4) s ≡ 0 = rw (← w) (b (8 + t) s (omega arith) h l) in
            sym (topic_load c (place s t) (omega arith)) ∙ topic_none s t l k (b t s (omega arith) h l) y;
      }

  -- the bits of a record without a flag
  bits_none :
      (s : ℕ) (h : s < slot_count) →
      (peer_in (state_of c) s).status ≡ 0 →
      (peer_in (state_of c) s).explicit ≡ 0 →
      (peer_in (state_of c) s).outbound ≡ 0 →
      (peer_in (state_of c) s).version ≡ 0 →
      (p : ℕ) →
      p < 6 →
      bit_at c (peers_at + p * 4) s ≡ 0
  bits_none s h es ee eo ev zero l = connected_bit c s h ∙ rw es
  bits_none s h es ee eo ev (suc zero) l = retained_bit c s h ∙ rw es
  bits_none s h es ee eo ev (suc (suc zero)) l = explicit_bit c s h ∙ ee
  bits_none s h es ee eo ev (suc (suc (suc zero))) l = outbound_bit c s h ∙ eo
  bits_none s h es ee eo ev (suc (suc (suc (suc zero)))) l = version_bit c s h ∙ rw ev
  bits_none s h es ee eo ev (suc (suc (suc (suc (suc zero))))) l = version_high_bit c s h ∙ rw ev
  bits_none s h es ee eo ev (suc (suc (suc (suc (suc (suc p)))))) l = absurd (omega arith)

  pub flags_from : FlagsFrom (state_of c) used
  flags_from =
      record {
        peer = λ s l h es ee eo ev. sym (peer_load c s h) ∙ peer_none s l (bits_none s h es ee eo ev);
        topic = λ s t l h k e m.
            sym (topic_load c (place s t) (omega arith))
            ∙ topic_none s t l k (subscribed_bit c t s k h ∙ e) (member_bit c t s k h ∙ m);
      }

-- no slot is past the last
pub empty_last : (c : List ℕ) → EmptyFrom (state_of c) slot_count
empty_last c = record { peer = λ s l h. absurd (omega arith); topic = λ s t l h k. absurd (omega arith) }
