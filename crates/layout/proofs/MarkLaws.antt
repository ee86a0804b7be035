-- The mark: cells from it on are no part of the state, and it may rise over a slot of zeros.
-- Assumes nothing.
use Prim.Native.Nat.{ℕ, zero, suc, ◌+◌, ◌*◌, ◌/◌, ◌%◌, ◌≤◌, ◌<◌}
use mathlib.Core.Path.{◌≡◌, refl, sym, ap, ◌∙◌, subst}
use mathlib.Core.Logic.{◌≢◌}
use mathlib.Core.List.{List}
use native.Mathlib.Omega.{arith}
use lib.ListN.{length, get_or, set, length-set}
use lib.Seq.{get_or-set_same, get_or-set_other, set-set, set-get_or}
use borrow.Author.Count.{below_more}
use Rattle.index.proofs.Flags.{by_order}
use Rattle.records.specs.declared.Peer.{Peer}
use Rattle.records.specs.Records.{peer_in, topic_in}
use Rattle.records.specs.Records.{param_count}
use Rattle.layout.specs.Rows.{tab}
use Rattle.layout.proofs.RowLaws.{tab_same}
use Rattle.layout.proofs.StateLaws.{peer_again, topic_again}
use Rattle.records.specs.Records.{slot_count}
use Rattle.layout.specs.View.{place_count, stride, used_at, setup_at, peers_at, id_at, column_count, column_of, ends_at, counters_at, p3b_at}
use Rattle.layout.specs.View.{graft_at, cell_count, bit_at, used_of, live_at, counter_of, graft_of, mesh_of, subscribed_word, member_word}
use Rattle.layout.specs.View.{topic_raw, topic_at, peer_raw, ends_of, peer_at, state_of, table, set_columns, params_at, joined_at, code_at}
use Rattle.layout.specs.View.{param_place, ZeroUpTo, Idle}
use Rattle.layout.proofs.BitLaws.{bit_cong, One, one_set}
use Rattle.layout.proofs.ViewLaws.{table_same, live_in, live_out, topic_load, peer_load, code_cong, setup_cong, TopicOnly}
use Rattle.layout.proofs.ViewLaws.{topic_store, PeerOnly, peer_store}
use Rattle.layout.proofs.PlaceLaws.{counters_only, p3b_only}
use Rattle.layout.proofs.SlotLaws.{column_only, end_only}

-- an occupied record stands below the mark
id_none : (c : List ℕ) (s : ℕ) → used_of c ≤ s → (peer_at c s).id ≡ 0
unfolding peer_at peer_raw
id_none c s l = rw (live_out c s (column_of 0 s) l)

pub used_above : (c : List ℕ) (s : ℕ) → s < slot_count → 0 < (peer_in (state_of c) s).id → s < used_of c
used_above c s h n =
    by_order (s < used_of c) s (used_of c) (λ l. l) (λ l.
    let e : (peer_at c s).id ≡ 0 = id_none c s l in
    let q : (peer_in (state_of c) s).id ≡ (peer_at c s).id = ap (λ (p : Peer). p.id) (sym (peer_load c s h)) in
    absurd (omega (arith, e, q, n)))

-- ---- a store past the mark changes nothing

live_dead : (c d : List ℕ) (s x : ℕ) → used_of d ≡ used_of c → used_of c ≤ s → live_at d s x ≡ live_at c s x
live_dead c d s x u l = live_out d s x (rw u l) ∙ sym (live_out c s x l)

peer_dead :
    (c d : List ℕ) (s : ℕ) →
    used_of d ≡ used_of c →
    used_of c ≤ s →
    ((p : ℕ) → p < 6 → bit_at d (peers_at + p * 4) s ≡ bit_at c (peers_at + p * 4) s) →
    peer_at d s ≡ peer_at c s
unfolding peer_at ends_of
peer_dead c d s u l b =
    let e : tab 8 (λ t. live_at d s (ends_at + s * 8 + t)) ≡ tab 8 (λ t. live_at c s (ends_at + s * 8 + t)) =
    tab_same 8 (λ t. live_at d s (ends_at + s * 8 + t)) (λ t. live_at c s (ends_at + s * 8 + t))
    (λ t k. live_dead c d s (ends_at + s * 8 + t) u l) in
    let x : (j : ℕ) → live_at d s (column_of j s) ≡ live_at c s (column_of j s) = λ j. live_dead c d s (column_of j s) u l in
    λ i. peer_raw (b 0 (omega arith) i) (b 1 (omega arith) i) (b 2 (omega arith) i) (b 3 (omega arith) i) (b 4 (omega arith) i)
    (b 5 (omega arith) i) (x 0 i) (x 1 i) (x 2 i) (x 3 i) (x 4 i) (x 5 i) (x 6 i) (e i)

-- a cell of a slot past the mark
pub idle_peer : (c d : List ℕ) (s x : ℕ) → length c ≡ cell_count → s < slot_count → used_of c ≤ s → id_at ≤ x → One c d x → PeerOnly c d s →
    Idle c d
idle_peer c d s x z h l g o only =
    let u : used_of d ≡ used_of c = o.rest used_at (λ e. omega arith) in
    let e : peer_at d s ≡ peer_in (state_of c) s =
    peer_dead c d s u l (λ p k. bit_cong c d (peers_at + p * 4) s (o.rest (peers_at + p * 4 + s / 64) (λ e. omega arith)))
    ∙ peer_load c s h in
    record { size = o.len ∙ z; used = u; form = peer_store c d s (peer_in (state_of c) s) only e ∙ peer_again (state_of c) s }

pub idle_topic :
    (c d : List ℕ) (k x : ℕ) →
    length c ≡ cell_count →
    k < place_count →
    used_of c ≤ k / 8 →
    counters_at ≤ x →
    x < graft_at →
    One c d x →
    TopicOnly c d k →
    Idle c d
unfolding topic_at
idle_topic c d k x z h l g m o only =
    let u : used_of d ≡ used_of c = o.rest used_at (λ e. omega arith) in
    let a = live_dead c d (k / 8) (counter_of k) u l in
    let b = live_dead c d (k / 8) (p3b_at + k) u l in
    let s = bit_cong c d (subscribed_word k) (k / 8) (o.rest (subscribed_word k + k / 8 / 64) (λ e. omega arith)) in
    let w = bit_cong c d (member_word k) (k / 8) (o.rest (member_word k + k / 8 / 64) (λ e. omega arith)) in
    let t = o.rest (graft_of k) (λ e. omega arith) in
    let v = o.rest (mesh_of k) (λ e. omega arith) in
    let q : topic_at d k ≡ topic_at c k = λ i. topic_raw (a i) (b i) (s i) (w i) (t i) (v i) in
    record {
      size = o.len ∙ z;
      used = u;
      form = topic_store c d k (topic_in (state_of c) k) only (q ∙ topic_load c k h)
          ∙ topic_again (state_of c) k;
    }

pub idle_then : (a b c : List ℕ) → Idle a b → Idle b c → Idle a c
idle_then a b c p q = record { size = q.size; used = q.used ∙ p.used; form = q.form ∙ p.form }

pub idle_none : (c : List ℕ) → length c ≡ cell_count → Idle c c
idle_none c z = record { size = z; used = refl; form = refl }

module _ (c : List ℕ) (s : ℕ) (z : length c ≡ cell_count) (h : s < slot_count) (l : used_of c ≤ s) where
  -- the columns
  column_idle : (q : ℕ) → q < column_count → Idle c (set c (column_of q s) 0)
  column_idle q k =
      let o = one_set c (column_of q s) 0 in
      idle_peer c (set c (column_of q s) 0) s (column_of q s) z h l (omega arith) o (column_only c (set c (column_of q s) 0) s h q k o)

-- the first n columns of slot s are 0
columns_clear : List ℕ → ℕ → ℕ → List ℕ
columns_clear c s zero = c
columns_clear c s (suc n) = set (columns_clear c s n) (column_of n s) 0

clear_idle : (c : List ℕ) (s n : ℕ) → length c ≡ cell_count → s < slot_count → used_of c ≤ s → n ≤ column_count → Idle c (columns_clear c s n)
unfolding columns_clear
clear_idle c s zero z h l k = idle_none c z
clear_idle c s (suc n) z h l k =
    let i = clear_idle c s n z h l (omega arith) in
    idle_then c (columns_clear c s n) (columns_clear c s (suc n)) i
    (column_idle (columns_clear c s n) s i.size h (rw i.used l) n (omega arith))

clear_size : (c : List ℕ) (s n : ℕ) → length (columns_clear c s n) ≡ length c
unfolding columns_clear
clear_size c s zero = refl
clear_size c s (suc n) = length-set (columns_clear c s n) (column_of n s) 0 ∙ clear_size c s n

clear_cell :
    (c : List ℕ) (s n j : ℕ) → length c ≡ cell_count → s < slot_count → n ≤ column_count → j < n → get_or (columns_clear c s n) (column_of j s) 0
    ≡ 0
unfolding columns_clear
clear_cell c s zero j z h k b = absurd (omega arith)
clear_cell c s (suc n) j z h k b =
    let d = columns_clear c s n in
    let y : length d ≡ cell_count = clear_size c s n ∙ z in
    by_order (get_or (set d (column_of n s) 0) (column_of j s) 0 ≡ 0) j n
    (λ m. get_or-set_other d (column_of n s) (column_of j s) 0 0 (λ e. omega arith) ∙ clear_cell c s n j z h (omega arith) m)
    (λ m.
    let e : column_of j s ≡ column_of n s = omega arith in
    ap (λ x. get_or (set d (column_of n s) 0) x 0) e ∙ get_or-set_same d (column_of n s) 0 0 (omega arith))

pub columns_idle :
    (c : List ℕ) (s : ℕ) → length c ≡ cell_count → s < slot_count → used_of c ≤ s → Idle c (set_columns c s 0 0 0 0 0 0 0)
unfolding set_columns columns_clear
columns_idle c s z h l = clear_idle c s column_count z h l (omega arith)

pub columns_zero : (c : List ℕ) (s : ℕ) → length c ≡ cell_count → s < slot_count → ZeroUpTo (set_columns c s 0 0 0 0 0 0 0) s 0
unfolding set_columns columns_clear
columns_zero c s z h =
    record {
      cell = λ j k. clear_cell c s column_count j z h (omega arith) k;
      counters = λ t k. absurd (omega arith);
      p3b = λ t k. absurd (omega arith);
      ends = λ t k. absurd (omega arith);
    }

module _ (c : List ℕ) (s : ℕ) (z : length c ≡ cell_count) (h : s < slot_count) (l : used_of c ≤ s) where
  -- the cells of one topic
  module _ (t : ℕ) (k : t < 8) where
    abbrev x1 : ℕ
    x1 = counters_at + t * stride + s

    abbrev x2 : ℕ
    x2 = p3b_at + (s * 8 + t)

    abbrev x3 : ℕ
    x3 = ends_at + s * 8 + t

    abbrev d1 : List ℕ
    d1 = set c x1 0

    abbrev d2 : List ℕ
    d2 = set d1 x2 0

    abbrev d3 : List ℕ
    d3 = set d2 x3 0

    place_is : counter_of (s * 8 + t) ≡ x1
    place_is = omega arith

    pub topic_idle : Idle c d3
    topic_idle =
        let p : s * 8 + t < place_count = omega arith in
        let q : (s * 8 + t) / 8 ≡ s = omega arith in
        let o1 = one_set c x1 0 in
        let i1 =
        idle_topic c d1 (s * 8 + t) x1 z p (rw q l) (omega arith) (omega arith) o1
        (counters_only c d1 (s * 8 + t) p (subst (One c d1) (sym place_is) o1)) in
        let o2 = one_set d1 x2 0 in
        let i2 = idle_topic d1 d2 (s * 8 + t) x2 i1.size p (rw (q, i1.used) l) (omega arith) (omega arith) o2
        (p3b_only d1 d2 (s * 8 + t) p o2) in
        let i12 = idle_then c d1 d2 i1 i2 in
        let o3 = one_set d2 x3 0 in
        let i3 = idle_peer d2 d3 s x3 i2.size h (rw i12.used l) (omega arith) o3 (end_only d2 d3 s h t k o3) in
        idle_then c d2 d3 i12 i3

    keeps : (y : ℕ) → y ≢ x1 → y ≢ x2 → y ≢ x3 → get_or d3 y 0 ≡ get_or c y 0
    keeps y n1 n2 n3 = get_or-set_other d2 x3 y 0 0 n3 ∙ get_or-set_other d1 x2 y 0 0 n2 ∙ get_or-set_other c x1 y 0 0 n1

    pub topic_zero : ZeroUpTo c s t → ZeroUpTo d3 s (t + 1)
    topic_zero r =
        let y1 = length-set c x1 0 in
        let y2 = length-set d1 x2 0 in
        record {
          cell = λ j b. keeps (column_of j s) (λ e. omega arith) (λ e. omega arith) (λ e. omega arith) ∙ r.cell j b;
          counters =
              below_more (λ u. get_or d3 (counters_at + u * stride + s) 0 ≡ 0) t
              (λ u b. keeps (counters_at + u * stride + s) (λ e. omega arith) (λ e. omega arith) (λ e. omega arith) ∙ r.counters u b)
              (get_or-set_other d2 x3 x1 0 0 (λ e. omega arith) ∙ get_or-set_other d1 x2 x1 0 0 (λ e. omega arith)
              ∙ get_or-set_same c x1 0 0 (omega arith));
          p3b =
              below_more (λ u. get_or d3 (p3b_at + (s * 8 + u)) 0 ≡ 0) t
              (λ u b. keeps (p3b_at + (s * 8 + u)) (λ e. omega arith) (λ e. omega arith) (λ e. omega arith) ∙ r.p3b u b)
              (get_or-set_other d2 x3 x2 0 0 (λ e. omega arith) ∙ get_or-set_same d1 x2 0 0 (omega arith));
          ends =
              below_more (λ u. get_or d3 (ends_at + s * 8 + u) 0 ≡ 0) t
              (λ u b. keeps (ends_at + s * 8 + u) (λ e. omega arith) (λ e. omega arith) (λ e. omega arith) ∙ r.ends u b)
              (get_or-set_same d2 x3 0 0 (omega arith));
        }

-- ---- the mark rises over a slot of zeros

module _ (c : List ℕ) (s : ℕ) (z : length c ≡ cell_count) (h : s < slot_count) (u : used_of c ≡ s) (r : ZeroUpTo c s 8) where
  abbrev risen : List ℕ
  risen = set c used_at (s + 1)

  mark_new : used_of risen ≡ s + 1
  mark_new = get_or-set_same c used_at (s + 1) 0 (omega arith)

  rest : (y : ℕ) → y ≢ used_at → get_or risen y 0 ≡ get_or c y 0
  rest y n = get_or-set_other c used_at y (s + 1) 0 n

  live_risen : (j x : ℕ) → x ≢ used_at → (j ≡ s → get_or c x 0 ≡ 0) → live_at risen j x ≡ live_at c j x
  live_risen j x n e =
      by_order (live_at risen j x ≡ live_at c j x) j s
      (λ l. live_in risen j x (omega (arith, mark_new, l)) ∙ rest x n ∙ sym (live_in c j x (omega (arith, u, l))))
      (λ l. by_order (live_at risen j x ≡ live_at c j x) s j
      (λ m. live_out risen j x (omega (arith, mark_new, m)) ∙ sym (live_out c j x (omega (arith, u, m))))
      (λ m.
      let q : j ≡ s = omega arith in
      live_in risen j x (omega (arith, mark_new, q)) ∙ rest x n ∙ e q ∙ sym (live_out c j x (omega (arith, u, q)))))

  peer_risen : (j : ℕ) → j < slot_count → peer_at risen j ≡ peer_at c j
  unfolding peer_at ends_of
  peer_risen j b =
      let f : (p : ℕ) → p < 6 → bit_at risen (peers_at + p * 4) j ≡ bit_at c (peers_at + p * 4) j =
      λ p k. bit_cong c risen (peers_at + p * 4) j (rest (peers_at + p * 4 + j / 64) (λ e. omega arith)) in
      let x : (n : ℕ) → n < column_count → live_at risen j (column_of n j) ≡ live_at c j (column_of n j) =
      λ n k. live_risen j (column_of n j) (λ e. omega arith) (λ q. rw q (r.cell n k)) in
      let e : tab 8 (λ t. live_at risen j (ends_at + j * 8 + t)) ≡ tab 8 (λ t. live_at c j (ends_at + j * 8 + t)) =
      tab_same 8 (λ t. live_at risen j (ends_at + j * 8 + t)) (λ t. live_at c j (ends_at + j * 8 + t)) (λ t k.
      live_risen j (ends_at + j * 8 + t) (λ e. omega arith) (λ q. rw q (r.ends t k))) in
      λ i. peer_raw (f 0 (omega arith) i) (f 1 (omega arith) i) (f 2 (omega arith) i) (f 3 (omega arith) i) (f 4 (omega arith) i)
      (f 5 (omega arith) i) (x 0 (omega arith) i) (x 1 (omega arith) i) (x 2 (omega arith) i) (x 3 (omega arith) i)
      (x 4 (omega arith) i) (x 5 (omega arith) i) (x 6 (omega arith) i) (e i)

  topic_risen : (k : ℕ) → k < place_count → topic_at risen k ≡ topic_at c k
  unfolding topic_at
  topic_risen k b =
      let x = live_risen (k / 8) (counter_of k) (λ e. omega arith) (λ q. rw q (r.counters (k % 8) (omega arith))) in
      let y =
      live_risen (k / 8) (p3b_at + k) (λ e. omega arith) (λ q.
      let w : p3b_at + (s * 8 + k % 8) ≡ p3b_at + k = omega arith in
      subst (λ n. get_or c n 0 ≡ 0) w (r.p3b (k % 8) (omega arith))) in
      let s1 = bit_cong c risen (subscribed_word k) (k / 8) (rest (subscribed_word k + k / 8 / 64) (λ e. omega arith)) in
      let m1 = bit_cong c risen (member_word k) (k / 8) (rest (member_word k + k / 8 / 64) (λ e. omega arith)) in
      let g1 = rest (graft_of k) (λ e. omega arith) in
      let t1 = rest (mesh_of k) (λ e. omega arith) in
      λ i. topic_raw (x i) (y i) (s1 i) (m1 i) (g1 i) (t1 i)

  pub mark_risen : (state_of risen ≡ state_of c) × (used_of risen ≡ s + 1)
  unfolding state_of
  mark_risen =
      let j : table 8 (λ t. get_or risen (joined_at + t) 0) ≡ table 8 (λ t. get_or c (joined_at + t) 0) =
      table_same 8 (λ t. get_or risen (joined_at + t) 0) (λ t. get_or c (joined_at + t) 0) (λ t l. rest (joined_at + t) (λ e. omega arith)) in
      let k : table param_count (code_at risen) ≡ table param_count (code_at c) =
      table_same param_count (code_at risen) (code_at c) (λ i l. code_cong c risen i (rest (params_at + param_place i) (λ e. omega arith))) in
      let p : table slot_count (peer_at risen) ≡ table slot_count (peer_at c) = table_same slot_count (peer_at risen) (peer_at c) peer_risen in
      let t : table place_count (topic_at risen) ≡ table place_count (topic_at c) =
      table_same place_count (topic_at risen) (topic_at c) topic_risen in
      let a : get_or risen 0 0 ≡ get_or c 0 0 = rest 0 (λ e. omega arith) in
      let v = setup_cong c risen (rest setup_at (λ e. omega arith)) in
      (λ i. record { clock = a i; joined = j i; codes = k i; setup = v i; peers = p i; topics = t i }, mark_new)

-- ---- the ends of `clear_slot`: c as it was, d after the columns, e in the loop
pub clear_start :
    (c d : List ℕ) (s : ℕ) →
    length c ≡ cell_count →
    s < slot_count →
    used_of c ≤ s →
    d ≡ set_columns c s 0 0 0 0 0 0 0 →
    (0 ≤ 8) × (length d ≡ cell_count) × (used_of d ≤ s) × Idle d d × ZeroUpTo d s 0
clear_start c d s z h l e =
    let i : Idle c d = subst (Idle c) (sym e) (columns_idle c s z h l) in
    (omega arith, i.size, rw i.used l, idle_none d i.size, subst (λ x. ZeroUpTo x s 0) (sym e) (columns_zero c s z h))

pub clear_more :
    (d e : List ℕ) (s t : ℕ) →
    s < slot_count →
    t < 8 →
    length e ≡ cell_count →
    used_of e ≤ s →
    Idle d e →
    ZeroUpTo e s t →
    (t + 1 ≤ 8)
    × (length (set (set (set e (counters_at + t * stride + s) 0) (p3b_at + (s * 8 + t)) 0) (ends_at + s * 8 + t) 0) ≡ cell_count)
    × (used_of (set (set (set e (counters_at + t * stride + s) 0) (p3b_at + (s * 8 + t)) 0) (ends_at + s * 8 + t) 0) ≤ s)
    × Idle d (set (set (set e (counters_at + t * stride + s) 0) (p3b_at + (s * 8 + t)) 0) (ends_at + s * 8 + t) 0)
    × ZeroUpTo (set (set (set e (counters_at + t * stride + s) 0) (p3b_at + (s * 8 + t)) 0) (ends_at + s * 8 + t) 0) s (t + 1)
clear_more d e s t h k z l i r =
    let j = topic_idle e s z h l t k in
    (omega arith, j.size, rw j.used l, idle_then d e _ i j, topic_zero e s z h l t k r)

pub clear_end :
    (c d e : List ℕ) (s t : ℕ) →
    length c ≡ cell_count →
    s < slot_count →
    used_of c ≤ s →
    d ≡ set_columns c s 0 0 0 0 0 0 0 →
    t ≤ 8 →
    8 ≤ t →
    Idle d e →
    ZeroUpTo e s t →
    Idle c e × ZeroUpTo e s 8
clear_end c d e s t z h l q m n i r =
    let j : Idle c d = subst (Idle c) (sym q) (columns_idle c s z h l) in
    let w : t ≡ 8 = omega arith in
    (idle_then c d e j i, subst (ZeroUpTo e s) w r)

-- ---- the end of `open_slot`
pub open_end :
    (c d : List ℕ) (s : ℕ) →
    used_of c ≡ s →
    s < slot_count →
    Idle c d →
    ZeroUpTo d s 8 →
    (state_of (set d used_at (s + 1)) ≡ state_of c)
    × ((used_of (set d used_at (s + 1)) ≡ s + 1) × (length (set d used_at (s + 1)) ≡ cell_count))
open_end c d s u h i r =
    let m = mark_risen d s i.size h (i.used ∙ u) r in
    (m.0 ∙ i.form, (m.1, length-set d used_at (s + 1) ∙ i.size))

-- ---- and it may fall over one
pub zero_kept : (c : List ℕ) (s n v : ℕ) → s < slot_count → n ≤ 8 → ZeroUpTo c s n → ZeroUpTo (set c used_at v) s n
zero_kept c s n v h l r =
    record {
      cell = λ j k. get_or-set_other c used_at (column_of j s) v 0 (λ e. omega arith) ∙ r.cell j k;
      counters = λ t k. get_or-set_other c used_at (counters_at + t * stride + s) v 0 (λ e. omega arith) ∙ r.counters t k;
      p3b = λ t k. get_or-set_other c used_at (p3b_at + (s * 8 + t)) v 0 (λ e. omega arith) ∙ r.p3b t k;
      ends = λ t k. get_or-set_other c used_at (ends_at + s * 8 + t) v 0 (λ e. omega arith) ∙ r.ends t k;
    }

pub mark_falls :
    (c : List ℕ) (s : ℕ) →
    length c ≡ cell_count →
    s < slot_count →
    used_of c ≡ s + 1 →
    ZeroUpTo c s 8 →
    (state_of (set c used_at s) ≡ state_of c) × (used_of (set c used_at s) ≡ s)
mark_falls c s z h u r =
    let d = set c used_at s in
    let w : used_of d ≡ s = get_or-set_same c used_at s 0 (omega arith) in
    let m = mark_risen d s (length-set c used_at s ∙ z) h w (zero_kept c s 8 s h (omega arith) r) in
    let b : set d used_at (s + 1) ≡ c = set-set c used_at s (s + 1) ∙ ap (set c used_at) (sym u) ∙ set-get_or c used_at 0 in
    (sym m.0 ∙ ap state_of b, w)
