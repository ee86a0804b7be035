-- A store to the cells of one slot: words, columns of two lanes, a row of eight ends.
-- Assumes nothing.
use Prim.Native.Nat.{ℕ, ◌+◌, ◌*◌, ◌/◌, ◌%◌, ◌≤◌, ◌<◌}
use mathlib.Core.Path.{◌≡◌, refl, sym, ap, ◌∙◌, subst}
use mathlib.Core.Logic.{◌≢◌}
use mathlib.Core.Bool.{cond}
use mathlib.Core.List.{List, [], ◌∷◌}
use native.Mathlib.Omega.{arith}
use native.Mathlib.Nat.{add-zero}
use lib.ListN.{length, get_or, set, length-set}
use lib.Seq.{length-paste, get_or-set_same}
use lib.Dec.{eqb}
use borrow.Author.Tests.{eq-eqb, ne_eqb}
use Rattle.index.proofs.Flags.{by_order}
use Rattle.records.specs.declared.Groups.{Groups}
use Rattle.records.specs.declared.Peer.{Peer}
use Rattle.records.specs.Records.{set_peer, peer_in}
use Rattle.layout.specs.Rows.{tab, put}
use Rattle.layout.proofs.RowLaws.{tab_same, tab_set, tab_get_or, get_or_put_before, get_or_put_in, get_or_put_after}
use Rattle.records.specs.Records.{slot_count}
use Rattle.layout.specs.View.{used_at, peers_at, id_at, column_count, column_of, ends_at, topics_at, cell_count, bit_at, used_of, live_at}
use Rattle.layout.specs.View.{peer_raw}
use Rattle.layout.specs.View.{ends_of, peer_at, state_of, set_bit, set_flags, set_columns, set_end, PeerFits}
use Rattle.layout.proofs.BitLaws.{by_same, length_bit, bit_cong, bit_put_same, bit_put_other, One, one_set, one_bit}
use Rattle.layout.proofs.ViewLaws.{live_in, live_cong, peer_parts, peer_load, PeerOnly, peer_then, peer_store}

-- a row keeps the length
length_put : (cells : List ℕ) (at : ℕ) (vs : List ℕ) → at + length vs ≤ length cells → length (put cells at vs) ≡ length cells
unfolding put
length_put cells at vs h = length-paste cells at vs (length vs) h (omega arith)

-- ---- lanes of 32 bits

pub low_half : (a b : ℕ) → a < 4294967296 → (a + b * 4294967296) % 4294967296 ≡ a
low_half a b h = omega arith

pub high_half : (a b : ℕ) → a < 4294967296 → (a + b * 4294967296) / 4294967296 ≡ b
high_half a b h = omega arith

two_bits : (n : ℕ) → n % 2 + 2 * (n / 2) ≡ n
two_bits n = omega arith

-- a record, to cells and back
pub peer_back :
    (p : Peer) →
    PeerFits p →
    peer_raw (p.status % 2) (p.status / 2) p.explicit p.outbound (p.version % 2) (p.version / 2) p.id p.groups.first
    p.groups.second p.groups.third p.groups.fourth (p.p5 + p.p7 * 4294967296) p.retain p.backoff ≡ p
unfolding peer_raw
peer_back p f =
    λ i. record {
      status = two_bits p.status i;
      id = p.id;
      groups = p.groups;
      outbound = p.outbound;
      explicit = p.explicit;
      version = two_bits p.version i;
      p5 = low_half p.p5 p.p7 f.p5 i;
      p7 = high_half p.p5 p.p7 f.p5 i;
      retain = p.retain;
      backoff = p.backoff;
    }

-- ---- what stands in the cells of slot s: b by word, v by column
pub record Slot (c : List ℕ) (s : ℕ) (b v : ℕ → ℕ) : Type 0 where
  pub size : length c ≡ cell_count
  pub used : s < used_of c
  pub flag : (p : ℕ) → p < 6 → bit_at c (peers_at + p * 4) s ≡ b p
  pub cell : (j : ℕ) → j < column_count → get_or c (column_of j s) 0 ≡ v j

pub slot_of : (c : List ℕ) (s : ℕ) → length c ≡ cell_count → s < used_of c
    → Slot c s (λ p. bit_at c (peers_at + p * 4) s) (λ j. get_or c (column_of j s) 0)
slot_of c s z u = record { size = z; used = u; flag = λ p h. refl; cell = λ j h. refl }

pub slot_peer :
    (c : List ℕ) (s : ℕ) (b v : ℕ → ℕ) (e : List ℕ) →
    Slot c s b v →
    ends_of c s ≡ e →
    peer_at c s ≡ peer_raw (b 0) (b 1) (b 2) (b 3) (b 4) (b 5) (v 0) (v 1) (v 2) (v 3) (v 4) (v 5) (v 6) e
unfolding peer_at
slot_peer c s b v e p q =
    let x : (j : ℕ) → j < column_count → live_at c s (column_of j s) ≡ v j = λ j l. live_in c s (column_of j s) p.used ∙ p.cell j l in
    λ t. peer_raw (p.flag 0 (omega arith) t) (p.flag 1 (omega arith) t) (p.flag 2 (omega arith) t) (p.flag 3 (omega arith) t)
    (p.flag 4 (omega arith) t) (p.flag 5 (omega arith) t) (x 0 (omega arith) t) (x 1 (omega arith) t) (x 2 (omega arith) t)
    (x 3 (omega arith) t) (x 4 (omega arith) t) (x 5 (omega arith) t) (x 6 (omega arith) t) (q t)

-- f with v at q
abbrev pub at_flag : (ℕ → ℕ) → ℕ → ℕ → ℕ → ℕ
at_flag f q v p = cond (eqb p q) v (f p)

-- ---- THE LAW OF A STORE to a cell of slot s: no other slot sees it, and nothing below or above

module _ (c d : List ℕ) (s : ℕ) (h : s < slot_count) where
  cell_only :
      (x : ℕ) →
      id_at ≤ x →
      x < topics_at →
      One c d x →
      ((j : ℕ) → j < slot_count → j ≢ s → ((q : ℕ) → q < column_count → column_of q j ≢ x)
      × ((t : ℕ) → t < 8 → ends_at + j * 8 + t ≢ x)) →
      PeerOnly c d s
  cell_only x l g o far =
      record {
        len = o.len;
        low = λ y b. o.rest y (λ e. omega arith);
        high = λ y b. o.rest y (λ e. omega arith);
        others =
            λ j b n.
            let f = far j b n in
            peer_parts c d j (o.rest used_at (λ e. omega arith))
            (λ p q. bit_cong c d (peers_at + p * 4) j (o.rest (peers_at + p * 4 + j / 64) (λ e. omega arith)))
            (λ q k. o.rest (column_of q j) (f.0 q k))
            (λ t q. o.rest (ends_at + j * 8 + t) (f.1 t q));
      }

  pub column_only : (q : ℕ) → q < column_count → One c d (column_of q s) → PeerOnly c d s
  column_only q k o =
      cell_only (column_of q s) (omega arith) (omega arith) o (λ j b n. (λ r l e. n (omega arith), λ t r e. omega arith))

  pub end_only : (t : ℕ) → t < 8 → One c d (ends_at + s * 8 + t) → PeerOnly c d s
  end_only t l o =
      cell_only (ends_at + s * 8 + t) (omega arith) (omega arith) o (λ j b n. (λ r k e. omega arith, λ u q e. n (omega arith)))

  -- the same store, seen by slot s
  pub column_part :
      (b v : ℕ → ℕ) (q x : ℕ) →
      q < column_count →
      Slot c s b v →
      One c d (column_of q s) →
      get_or d (column_of q s) 0 ≡ x →
      Slot d s b (at_flag v q x)
  column_part b v q x k p o e =
      record {
        size = o.len ∙ p.size;
        used = rw (o.rest used_at (λ e. omega arith)) p.used;
        flag = λ r l. bit_cong c d (peers_at + r * 4) s (o.rest (peers_at + r * 4 + s / 64) (λ e. omega arith)) ∙ p.flag r l;
        cell =
            λ j l. by_same (get_or d (column_of j s) 0 ≡ at_flag v q x j) j q
            (λ w. rw (eq-eqb j q w) (rw w e))
            (λ n. rw (ne_eqb j q n) (o.rest (column_of j s) (λ w. n (omega arith)) ∙ p.cell j l));
      }

-- ---- a word

module _ (c : List ℕ) (s : ℕ) (h : s < slot_count) (z : length c ≡ cell_count) (q : ℕ) (g : q < 6) (v : ℕ) (l : v ≤ 1) where
  abbrev after : List ℕ
  after = set_bit c (peers_at + q * 4) s v

  other_word : (j p : ℕ) → j < slot_count → p < 6 → p ≢ q → bit_at after (peers_at + p * 4) j ≡ bit_at c (peers_at + p * 4) j
  other_word j p b k n =
      bit_cong c after (peers_at + p * 4) j ((one_bit c (peers_at + q * 4) s v).rest (peers_at + p * 4 + j / 64) (λ e. n (omega arith)))

  pub flag_only : PeerOnly c after s
  flag_only =
      let o = one_bit c (peers_at + q * 4) s v in
      record {
        len = o.len;
        low = λ y b. o.rest y (λ e. omega arith);
        high = λ y b. o.rest y (λ e. omega arith);
        others =
            λ j b n.
            peer_parts c after j (o.rest used_at (λ e. omega arith))
            (λ p k. by_same (bit_at after (peers_at + p * 4) j ≡ bit_at c (peers_at + p * 4) j) p q
            (λ e. rw e (bit_put_other c (peers_at + q * 4) s v j (omega arith) l n))
            (λ m. other_word j p b k m))
            (λ r k. o.rest (column_of r j) (λ e. omega arith))
            (λ t k. o.rest (ends_at + j * 8 + t) (λ e. omega arith));
      }

  pub flag_part : (b w : ℕ → ℕ) → Slot c s b w → Slot after s (at_flag b q v) w
  flag_part b w p =
      let o = one_bit c (peers_at + q * 4) s v in
      record {
        size = o.len ∙ p.size;
        used = rw (o.rest used_at (λ e. omega arith)) p.used;
        flag =
            λ k f. by_same (bit_at after (peers_at + k * 4) s ≡ at_flag b q v k) k q
            (λ e. rw (eq-eqb k q e) (rw e (bit_put_same c (peers_at + q * 4) s v (omega arith) l)))
            (λ n. rw (ne_eqb k q n) (other_word s k h f n ∙ p.flag k f));
        cell = λ j k. o.rest (column_of j s) (λ e. omega arith) ∙ p.cell j k;
      }

-- a column
column_put :
    (c : List ℕ) (s : ℕ) → s < slot_count → (b v : ℕ → ℕ) → Slot c s b v → (q : ℕ) → q < column_count → (x : ℕ) →
    Slot (set c (column_of q s) x) s b (at_flag v q x)
column_put c s h b v p q k x =
    let z = p.size in
    column_part c (set c (column_of q s) x) s h b v q x k p (one_set c (column_of q s) x) (get_or-set_same c (column_of q s) x 0 (omega arith))

-- ---- the six words, the seven columns
module _ (c : List ℕ) (s : ℕ) (h : s < slot_count) (b v : ℕ → ℕ) (p : Slot c s b v) where
  module _ (b0 b1 b2 b3 b4 b5 : ℕ) (l0 : b0 ≤ 1) (l1 : b1 ≤ 1) (l2 : b2 ≤ 1) (l3 : b3 ≤ 1) (l4 : b4 ≤ 1) (l5 : b5 ≤ 1) where
    abbrev f1 : List ℕ
    f1 = set_bit c peers_at s b0

    abbrev f2 : List ℕ
    f2 = set_bit f1 (peers_at + 4) s b1

    abbrev f3 : List ℕ
    f3 = set_bit f2 (peers_at + 8) s b2

    abbrev f4 : List ℕ
    f4 = set_bit f3 (peers_at + 12) s b3

    abbrev f5 : List ℕ
    f5 = set_bit f4 (peers_at + 16) s b4

    z1 : length f1 ≡ cell_count
    z1 = length_bit c peers_at s b0 ∙ p.size

    z2 : length f2 ≡ cell_count
    z2 = length_bit f1 (peers_at + 4) s b1 ∙ z1

    z3 : length f3 ≡ cell_count
    z3 = length_bit f2 (peers_at + 8) s b2 ∙ z2

    z4 : length f4 ≡ cell_count
    z4 = length_bit f3 (peers_at + 12) s b3 ∙ z3

    z5 : length f5 ≡ cell_count
    z5 = length_bit f4 (peers_at + 16) s b4 ∙ z4

    pub flags_only : PeerOnly c (set_flags c s b0 b1 b2 b3 b4 b5) s
    unfolding set_flags
    flags_only =
        let a0 = flag_only c s h p.size 0 (omega arith) b0 l0 in
        let a1 = flag_only f1 s h z1 1 (omega arith) b1 l1 in
        let a2 = flag_only f2 s h z2 2 (omega arith) b2 l2 in
        let a3 = flag_only f3 s h z3 3 (omega arith) b3 l3 in
        let a4 = flag_only f4 s h z4 4 (omega arith) b4 l4 in
        let a5 = flag_only f5 s h z5 5 (omega arith) b5 l5 in
        let f6 = set_bit f5 (peers_at + 20) s b5 in
        peer_then c f1 f6 s a0 (peer_then f1 f2 f6 s a1 (peer_then f2 f3 f6 s a2 (peer_then f3 f4 f6 s a3 (peer_then f4 f5 f6 s a4 a5))))

    abbrev pub flags6 : ℕ → ℕ
    flags6 = at_flag (at_flag (at_flag (at_flag (at_flag (at_flag b 0 b0) 1 b1) 2 b2) 3 b3) 4 b4) 5 b5

    pub flags_part : Slot (set_flags c s b0 b1 b2 b3 b4 b5) s flags6 v
    unfolding set_flags
    flags_part =
        let a0 = flag_part c s h p.size 0 (omega arith) b0 l0 b v p in
        let a1 = flag_part f1 s h z1 1 (omega arith) b1 l1 _ v a0 in
        let a2 = flag_part f2 s h z2 2 (omega arith) b2 l2 _ v a1 in
        let a3 = flag_part f3 s h z3 3 (omega arith) b3 l3 _ v a2 in
        let a4 = flag_part f4 s h z4 4 (omega arith) b4 l4 _ v a3 in
        flag_part f5 s h z5 5 (omega arith) b5 l5 _ v a4

  module _ (v0 v1 v2 v3 v4 v5 v6 : ℕ) where
    abbrev k1 : List ℕ
    k1 = set c (column_of 0 s) v0

    abbrev k2 : List ℕ
    k2 = set k1 (column_of 1 s) v1

    abbrev k3 : List ℕ
    k3 = set k2 (column_of 2 s) v2

    abbrev k4 : List ℕ
    k4 = set k3 (column_of 3 s) v3

    abbrev k5 : List ℕ
    k5 = set k4 (column_of 4 s) v4

    abbrev k6 : List ℕ
    k6 = set k5 (column_of 5 s) v5

    pub columns_only : PeerOnly c (set_columns c s v0 v1 v2 v3 v4 v5 v6) s
    unfolding set_columns
    columns_only =
        let k7 = set k6 (column_of 6 s) v6 in
        let a0 = column_only c k1 s h 0 (omega arith) (one_set c (column_of 0 s) v0) in
        let a1 = column_only k1 k2 s h 1 (omega arith) (one_set k1 (column_of 1 s) v1) in
        let a2 = column_only k2 k3 s h 2 (omega arith) (one_set k2 (column_of 2 s) v2) in
        let a3 = column_only k3 k4 s h 3 (omega arith) (one_set k3 (column_of 3 s) v3) in
        let a4 = column_only k4 k5 s h 4 (omega arith) (one_set k4 (column_of 4 s) v4) in
        let a5 = column_only k5 k6 s h 5 (omega arith) (one_set k5 (column_of 5 s) v5) in
        let a6 = column_only k6 k7 s h 6 (omega arith) (one_set k6 (column_of 6 s) v6) in
        peer_then c k1 k7 s a0 (peer_then k1 k2 k7 s a1 (peer_then k2 k3 k7 s a2 (peer_then k3 k4 k7 s a3
        (peer_then k4 k5 k7 s a4 (peer_then k5 k6 k7 s a5 a6)))))

    abbrev pub columns7 : ℕ → ℕ
    columns7 = at_flag (at_flag (at_flag (at_flag (at_flag (at_flag (at_flag v 0 v0) 1 v1) 2 v2) 3 v3) 4 v4) 5 v5) 6 v6

    pub columns_part : Slot (set_columns c s v0 v1 v2 v3 v4 v5 v6) s b columns7
    unfolding set_columns
    columns_part =
        let a0 = column_put c s h b v p 0 (omega arith) v0 in
        let a1 = column_put k1 s h b _ a0 1 (omega arith) v1 in
        let a2 = column_put k2 s h b _ a1 2 (omega arith) v2 in
        let a3 = column_put k3 s h b _ a2 3 (omega arith) v3 in
        let a4 = column_put k4 s h b _ a3 4 (omega arith) v4 in
        let a5 = column_put k5 s h b _ a4 5 (omega arith) v5 in
        column_put k6 s h b _ a5 6 (omega arith) v6

-- ---- the row of ends
module _ (c : List ℕ) (s : ℕ) (h : s < slot_count) (z : length c ≡ cell_count) (vs : List ℕ) (n : length vs ≡ 8) where
  abbrev at : ℕ
  at = ends_at + s * 8

  abbrev d : List ℕ
  d = put c at vs

  fits : at + length vs ≤ length c
  fits = omega arith

  row_before : (y : ℕ) → y < at → get_or d y 0 ≡ get_or c y 0
  row_before y l = get_or_put_before c at vs fits y l

  row_after : (y : ℕ) → at + 8 ≤ y → get_or d y 0 ≡ get_or c y 0
  row_after y l = get_or_put_after c at vs fits y (omega arith)

  pub row_only : PeerOnly c d s
  row_only =
      record {
        len = length_put c at vs fits;
        low = λ y b. row_before y (omega arith);
        high = λ y b. row_after y (omega arith);
        others =
            λ j b ne.
            peer_parts c d j (row_before used_at (omega arith))
            (λ p k. bit_cong c d (peers_at + p * 4) j (row_before (peers_at + p * 4 + j / 64) (omega arith)))
            (λ q k. row_before (column_of q j) (omega arith))
            (λ t k. by_order (get_or d (ends_at + j * 8 + t) 0 ≡ get_or c (ends_at + j * 8 + t) 0) j s
            (λ l. row_before (ends_at + j * 8 + t) (omega arith))
            (λ l. row_after (ends_at + j * 8 + t)
            (let q : s < j = by_order (s < j) s j (λ x. x) (λ x. absurd (ne (omega arith))) in omega arith)));
      }

  pub row_part : (b v : ℕ → ℕ) → Slot c s b v → Slot d s b v
  row_part b v p =
      record {
        size = length_put c at vs fits ∙ z;
        used = rw (row_before used_at (omega arith)) p.used;
        flag = λ q k. bit_cong c d (peers_at + q * 4) s (row_before (peers_at + q * 4 + s / 64) (omega arith)) ∙ p.flag q k;
        cell = λ q k. row_before (column_of q s) (omega arith) ∙ p.cell q k;
      }

  pub row_ends : s < used_of c → ends_of d s ≡ vs
  unfolding ends_of
  row_ends u =
      let v : s < used_of d = rw (row_before used_at (omega arith)) u in
      tab_same 8 (λ t. live_at d s (at + t)) (λ t. get_or vs t 0) (λ t k. live_in d s (at + t) v ∙ get_or_put_in c at vs fits t (omega arith))
      ∙ subst (λ k. tab k (λ t. get_or vs t 0) ≡ vs) n (tab_get_or vs 0)

-- ---- a whole record, by words, columns and row
pub peer_written :
    (c : List ℕ) (s : ℕ) (p : Peer) →
    length c ≡ cell_count →
    s < slot_count →
    s < used_of c →
    PeerFits p →
    length p.backoff ≡ 8 →
    (c1 c2 c3 : List ℕ) →
    c1 ≡ set_flags c s (p.status % 2) (p.status / 2) p.explicit p.outbound (p.version % 2) (p.version / 2) →
    c2
    ≡ set_columns c1 s p.id p.groups.first p.groups.second p.groups.third p.groups.fourth (p.p5 + p.p7 * 4294967296)
    p.retain →
    c3 ≡ put c2 (ends_at + s * 8) p.backoff →
    state_of c3 ≡ set_peer (state_of c) s p
peer_written c s p z h u f n c1 c2 c3 e1 e2 e3 =
    let l0 : p.status % 2 ≤ 1 = omega arith in
    let st = f.status in
    let ve = f.version in
    let l1 : p.status / 2 ≤ 1 = omega arith in
    let l4 : p.version % 2 ≤ 1 = omega arith in
    let l5 : p.version / 2 ≤ 1 = omega arith in
    let y : ℕ = p.p5 + p.p7 * 4294967296 in
    let g = p.groups in
    let p0 = slot_of c s z u in
    let o1 : PeerOnly c c1 s =
    rw e1 (flags_only c s h _ _ p0 (p.status % 2) (p.status / 2) p.explicit p.outbound (p.version % 2) (p.version / 2) l0 l1
    f.explicit f.outbound l4 l5) in
    let fs = flags6 c s h _ _ p0 (p.status % 2) (p.status / 2) p.explicit p.outbound (p.version % 2) (p.version / 2) l0 l1
    f.explicit f.outbound l4 l5 in
    let q1 : Slot c1 s fs (λ j. get_or c (column_of j s) 0) =
    rw e1 (flags_part c s h _ _ p0 (p.status % 2) (p.status / 2) p.explicit p.outbound (p.version % 2) (p.version / 2) l0 l1
    f.explicit f.outbound l4 l5) in
    let o2 : PeerOnly c1 c2 s =
    rw e2 (columns_only c1 s h _ _ q1 p.id g.first g.second g.third g.fourth y p.retain) in
    let vs = columns7 c1 s h _ _ q1 p.id g.first g.second g.third g.fourth y p.retain in
    let q2 : Slot c2 s fs vs =
    rw e2 (columns_part c1 s h _ _ q1 p.id g.first g.second g.third g.fourth y p.retain) in
    let o3 : PeerOnly c2 c3 s = rw e3 (row_only c2 s h q2.size p.backoff n) in
    let q3 : Slot c3 s fs vs = rw e3 (row_part c2 s h q2.size p.backoff n fs vs q2) in
    let r3 : ends_of c3 s ≡ p.backoff = rw e3 (row_ends c2 s h q2.size p.backoff n q2.used) in
    peer_store c c3 s p (peer_then c c1 c3 s o1 (peer_then c1 c2 c3 s o2 o3))
    (slot_peer c3 s fs vs p.backoff q3 r3 ∙ peer_back p f)

-- ---- one backoff end
end_seen :
    (c : List ℕ) (s t v : ℕ) →
    length c ≡ cell_count →
    s < slot_count →
    t < 8 →
    s < used_of c →
    peer_at (set c (ends_at + s * 8 + t) v) s ≡ set_end (peer_at c s) t v
unfolding set_end peer_at peer_raw ends_of
end_seen c s t v z h l u =
    let d = set c (ends_at + s * 8 + t) v in
    let o = one_set c (ends_at + s * 8 + t) v in
    let w : used_of d ≡ used_of c = o.rest used_at (λ e. omega arith) in
    let b : (q : ℕ) → q < 6 → bit_at d (peers_at + q * 4) s ≡ bit_at c (peers_at + q * 4) s =
    λ q k. bit_cong c d (peers_at + q * 4) s (o.rest (peers_at + q * 4 + s / 64) (λ e. omega arith)) in
    let x : (j : ℕ) → j < column_count → live_at d s (column_of j s) ≡ live_at c s (column_of j s) =
    λ j l. live_cong c d s (column_of j s) w (o.rest (column_of j s) (λ e. omega arith)) in
    let e : tab 8 (λ k. live_at d s (ends_at + s * 8 + k)) ≡ set (tab 8 (λ k. live_at c s (ends_at + s * 8 + k))) t v =
    tab_set 8 (λ k. live_at c s (ends_at + s * 8 + k)) (λ k. live_at d s (ends_at + s * 8 + k)) t v
    (live_in d s (ends_at + s * 8 + t) (rw w u) ∙ get_or-set_same c (ends_at + s * 8 + t) v 0 (omega arith))
    (λ k j n. live_cong c d s (ends_at + s * 8 + k) w (o.rest (ends_at + s * 8 + k) (λ e. n (omega arith)))) in
    λ i. peer_raw (b 0 (omega arith) i) (b 1 (omega arith) i) (b 2 (omega arith) i) (b 3 (omega arith) i) (b 4 (omega arith) i)
    (b 5 (omega arith) i) (x 0 (omega arith) i) (x 1 (omega arith) i) (x 2 (omega arith) i) (x 3 (omega arith) i)
    (x 4 (omega arith) i) (x 5 (omega arith) i) (x 6 (omega arith) i) (e i)

pub end_written :
    (c : List ℕ) (s t v : ℕ) →
    length c ≡ cell_count →
    s < slot_count →
    t < 8 →
    s < used_of c →
    state_of (set c (ends_at + s * 8 + t) v) ≡ set_peer (state_of c) s (set_end (peer_in (state_of c) s) t v)
end_written c s t v z h l u =
    let d = set c (ends_at + s * 8 + t) v in
    let o = one_set c (ends_at + s * 8 + t) v in
    peer_store c d s (set_end (peer_in (state_of c) s) t v) (end_only c d s h t l o)
    (end_seen c s t v z h l u ∙ ap (λ p. set_end p t v) (peer_load c s h))

-- ---- the ends of the functions
pub length_flags : (c : List ℕ) (s a b e f g h : ℕ) → length (set_flags c s a b e f g h) ≡ length c
unfolding set_flags
length_flags c s a b e f g h =
    length_bit (set_bit (set_bit (set_bit (set_bit (set_bit c peers_at s a) (peers_at + 4) s b) (peers_at + 8) s e) (peers_at + 12) s f)
    (peers_at + 16) s g) (peers_at + 20) s h
    ∙ length_bit (set_bit (set_bit (set_bit (set_bit c peers_at s a) (peers_at + 4) s b) (peers_at + 8) s e) (peers_at + 12) s f) (peers_at + 16) s g
    ∙ length_bit (set_bit (set_bit (set_bit c peers_at s a) (peers_at + 4) s b) (peers_at + 8) s e) (peers_at + 12) s f
    ∙ length_bit (set_bit (set_bit c peers_at s a) (peers_at + 4) s b) (peers_at + 8) s e
    ∙ length_bit (set_bit c peers_at s a) (peers_at + 4) s b
    ∙ length_bit c peers_at s a

pub flags_chain :
    (c : List ℕ) (s a b e f g h : ℕ) (c1 c2 c3 c4 c5 c6 : List ℕ) →
    c1 ≡ set_bit c peers_at s a →
    c2 ≡ set_bit c1 (peers_at + 4) s b →
    c3 ≡ set_bit c2 (peers_at + 8) s e →
    c4 ≡ set_bit c3 (peers_at + 12) s f →
    c5 ≡ set_bit c4 (peers_at + 16) s g →
    c6 ≡ set_bit c5 (peers_at + 20) s h →
    (c6 ≡ set_flags c s a b e f g h) × (length c6 ≡ length c)
unfolding set_flags
flags_chain c s a b e f g h c1 c2 c3 c4 c5 c6 e1 e2 e3 e4 e5 e6 =
    let q2 = e2 ∙ ap (λ x. set_bit x (peers_at + 4) s b) e1 in
    let q3 = e3 ∙ ap (λ x. set_bit x (peers_at + 8) s e) q2 in
    let q4 = e4 ∙ ap (λ x. set_bit x (peers_at + 12) s f) q3 in
    let q5 = e5 ∙ ap (λ x. set_bit x (peers_at + 16) s g) q4 in
    let q6 = e6 ∙ ap (λ x. set_bit x (peers_at + 20) s h) q5 in
    (q6, ap length q6 ∙ length_flags c s a b e f g h)

pub length_columns :
    (c : List ℕ) (s v0 v1 v2 v3 v4 v5 v6 : ℕ) → length (set_columns c s v0 v1 v2 v3 v4 v5 v6) ≡ length c
unfolding set_columns
length_columns c s v0 v1 v2 v3 v4 v5 v6 =
    let k1 = set c (column_of 0 s) v0 in
    let k2 = set k1 (column_of 1 s) v1 in
    let k3 = set k2 (column_of 2 s) v2 in
    let k4 = set k3 (column_of 3 s) v3 in
    let k5 = set k4 (column_of 4 s) v4 in
    let k6 = set k5 (column_of 5 s) v5 in
    length-set k6 (column_of 6 s) v6 ∙ length-set k5 (column_of 5 s) v5 ∙ length-set k4 (column_of 4 s) v4 ∙ length-set k3 (column_of 3 s) v3
    ∙ length-set k2 (column_of 2 s) v2 ∙ length-set k1 (column_of 1 s) v1 ∙ length-set c (column_of 0 s) v0

pub eight_ends :
    (c : List ℕ) (s x0 x1 x2 x3 x4 x5 x6 x7 : ℕ) →
    x0 ≡ live_at c s (ends_at + s * 8) →
    x1 ≡ live_at c s (ends_at + s * 8 + 1) →
    x2 ≡ live_at c s (ends_at + s * 8 + 2) →
    x3 ≡ live_at c s (ends_at + s * 8 + 3) →
    x4 ≡ live_at c s (ends_at + s * 8 + 4) →
    x5 ≡ live_at c s (ends_at + s * 8 + 5) →
    x6 ≡ live_at c s (ends_at + s * 8 + 6) →
    x7 ≡ live_at c s (ends_at + s * 8 + 7) →
    x0 ∷ x1 ∷ x2 ∷ x3 ∷ x4 ∷ x5 ∷ x6 ∷ x7 ∷ [] ≡ ends_of c s
unfolding ends_of
eight_ends c s x0 x1 x2 x3 x4 x5 x6 x7 e0 e1 e2 e3 e4 e5 e6 e7 =
    let z = e0 ∙ ap (live_at c s) (sym (add-zero (ends_at + s * 8))) in
    λ i. z i ∷ e1 i ∷ e2 i ∷ e3 i ∷ e4 i ∷ e5 i ∷ e6 i ∷ e7 i ∷ []

-- a record of its parts
abbrev peer_of : (status id : ℕ) → Groups → (outbound explicit version p57 retain : ℕ) → List ℕ → Peer
peer_of status id groups outbound explicit version p57 retain ends =
    record {
      status = status;
      id = id;
      groups = groups;
      outbound = outbound;
      explicit = explicit;
      version = version;
      p5 = p57 % 4294967296;
      p7 = p57 / 4294967296;
      retain = retain;
      backoff = ends;
    }

pub peer_read :
    (c : List ℕ) (s b0 b1 b2 b3 b4 b5 x y i m r : ℕ) (g : Groups) (e : List ℕ) →
    s < slot_count →
    x ≡ b0 + 2 * b1 →
    y ≡ b4 + 2 * b5 →
    b0 ≡ bit_at c peers_at s →
    b1 ≡ bit_at c (peers_at + 4) s →
    b2 ≡ bit_at c (peers_at + 8) s →
    b3 ≡ bit_at c (peers_at + 12) s →
    b4 ≡ bit_at c (peers_at + 16) s →
    b5 ≡ bit_at c (peers_at + 20) s →
    i ≡ live_at c s (column_of 0 s) →
    g ≡ (peer_in (state_of c) s).groups →
    m ≡ live_at c s (column_of 5 s) →
    r ≡ live_at c s (column_of 6 s) →
    e ≡ ends_of c s →
    record {
      status = x;
      id = i;
      groups = g;
      outbound = b3;
      explicit = b2;
      version = y;
      p5 = m % 4294967296;
      p7 = m / 4294967296;
      retain = r;
      backoff = e;
    } ≡ peer_in (state_of c) s
unfolding peer_at peer_raw
peer_read c s b0 b1 b2 b3 b4 b5 x y i m r g e h ex ey e0 e1 e2 e3 e4 e5 ei eg em er ee =
    let w : g ≡ (peer_at c s).groups = eg ∙ ap (λ (p : Peer). p.groups) (sym (peer_load c s h)) in
    let st : x ≡ bit_at c peers_at s + 2 * bit_at c (peers_at + 4) s = ex ∙ λ t. e0 t + 2 * e1 t in
    let ve : y ≡ bit_at c (peers_at + 16) s + 2 * bit_at c (peers_at + 20) s = ey ∙ λ t. e4 t + 2 * e5 t in
    let v : peer_of x i g b3 b2 y m r e ≡ peer_at c s =
    λ t. peer_of (st t) (ei t) (w t) (e3 t) (e2 t) (ve t) (em t) (er t) (ee t) in
    v ∙ peer_load c s h
