-- A store to the cells of one place: lanes, a column by topic, a word by topic, a row by slot.
-- Assumes nothing.
use Prim.Native.Nat.{ℕ, ◌+◌, ◌*◌, ◌/◌, ◌%◌, ◌≤◌, ◌<◌}
use mathlib.Core.Path.{◌≡◌, refl, sym, ap, ◌∙◌}
use mathlib.Core.Logic.{◌≢◌}
use mathlib.Core.List.{List}
use native.Mathlib.Omega.{arith}
use lib.ListN.{length, get_or, set, length-set}
use lib.Seq.{get_or-set_same}
use lib.Dec.{eqb}
use borrow.Author.Tests.{eq-eqb, ne_eqb}
use Rattle.records.specs.declared.TopicRecord.{TopicRecord}
use Rattle.records.specs.Records.{set_topic, topic_in}
use Rattle.layout.specs.View.{place_count, used_at, topics_at, member_at, counters_at, p3b_at, cell_count, bit_at, used_of, keep, live_at}
use Rattle.layout.specs.View.{counter_of, graft_of, mesh_of, subscribed_word, member_word, topic_raw, topic_at, state_of, set_bit}
use Rattle.layout.specs.View.{with_subscription, without_member, with_member, TopicFits}
use Rattle.layout.proofs.BitLaws.{by_same, length_bit, bit_cong, bit_put_same, place_put_other, One, one_set, one_bit}
use Rattle.layout.proofs.ViewLaws.{live_in, live_cong, topic_parts, topic_load, TopicOnly, topic_then, topic_store}

-- ---- lanes

pub lane_first : (a b c : ℕ) → a < 2097152 → b < 2097152 → (a + b * 2097152 + c * 4398046511104) % 2097152 ≡ a
lane_first a b c h l = omega arith

pub lane_second : (a b c : ℕ) → a < 2097152 → b < 2097152 → (a + b * 2097152 + c * 4398046511104) / 2097152 % 2097152 ≡ b
lane_second a b c h l = omega arith

pub lane_third : (a b c : ℕ) → a < 2097152 → b < 2097152 → (a + b * 2097152 + c * 4398046511104) / 4398046511104 ≡ c
lane_third a b c h l = omega arith

abbrev pub packed : TopicRecord → ℕ
packed t = t.p2 + t.p3 * 2097152 + t.p4 * 4398046511104

kept : (m g : ℕ) → (m ≢ 1 → g ≡ 0) → keep (eqb m 1) g ≡ g
kept m g h = by_same (keep (eqb m 1) g ≡ g) m 1 (λ e. rw (eq-eqb m 1 e)) (λ n. rw (ne_eqb m 1 n) (sym (h n)))

-- a record, to cells and back
pub topic_back : (t : TopicRecord) → TopicFits t → topic_raw (packed t) t.p3b t.subscribed t.member t.graft t.mesh ≡ t
unfolding topic_raw
topic_back t f =
    λ i. record {
      p2 = lane_first t.p2 t.p3 t.p4 f.p2 f.p3 i;
      p3 = lane_second t.p2 t.p3 t.p4 f.p2 f.p3 i;
      p4 = lane_third t.p2 t.p3 t.p4 f.p2 f.p3 i;
      p3b = t.p3b;
      subscribed = t.subscribed;
      member = t.member;
      graft = kept t.member t.graft f.graft i;
      mesh = kept t.member t.mesh f.mesh i;
    }

-- what one bit changes in what is read
raw_subscribed : (a b s m g t v : ℕ) → topic_raw a b v m g t ≡ with_subscription (topic_raw a b s m g t) v
unfolding topic_raw with_subscription
raw_subscribed a b s m g t v = refl

raw_out : (a b s m g t : ℕ) → topic_raw a b s 0 g t ≡ without_member (topic_raw a b s m g t)
unfolding topic_raw without_member
raw_out a b s m g t = refl

raw_into : (a b s m g t time : ℕ) → topic_raw a b s 1 time 0 ≡ with_member (topic_raw a b s m g t) time
unfolding topic_raw with_member
raw_into a b s m g t time = refl

-- ---- what stands in the cells of place k
pub record Parts (c : List ℕ) (k a b s m g t : ℕ) : Type 0 where
  pub size : length c ≡ cell_count
  pub counters : live_at c (k / 8) (counter_of k) ≡ a
  pub p3b : live_at c (k / 8) (p3b_at + k) ≡ b
  pub subscribed : bit_at c (subscribed_word k) (k / 8) ≡ s
  pub member : bit_at c (member_word k) (k / 8) ≡ m
  pub graft : get_or c (graft_of k) 0 ≡ g
  pub mesh : get_or c (mesh_of k) 0 ≡ t

pub parts_topic : (c : List ℕ) (k a b s m g t : ℕ) → Parts c k a b s m g t → topic_at c k ≡ topic_raw a b s m g t
unfolding topic_at
parts_topic c k a b s m g t p =
    λ i. topic_raw (p.counters i) (p.p3b i) (p.subscribed i) (p.member i) (p.graft i) (p.mesh i)

pub parts_of : (c : List ℕ) (k : ℕ) → length c ≡ cell_count
    → Parts c k (live_at c (k / 8) (counter_of k)) (live_at c (k / 8) (p3b_at + k)) (bit_at c (subscribed_word k) (k / 8))
    (bit_at c (member_word k) (k / 8)) (get_or c (graft_of k) 0) (get_or c (mesh_of k) 0)
parts_of c k z =
    record { size = z; counters = refl; p3b = refl; subscribed = refl; member = refl; graft = refl; mesh = refl }

-- ---- THE LAW OF A STORE to a cell of place k: no other place sees it, and nothing below

module _ (c d : List ℕ) (k : ℕ) (h : k < place_count) where
  -- cell x belongs to no other place, or the others see no change in it
  only :
      (x : ℕ) →
      topics_at ≤ x →
      One c d x →
      ((j : ℕ) → j < place_count → j ≢ k → (counter_of j ≢ x) × (p3b_at + j ≢ x) × (graft_of j ≢ x) × (mesh_of j ≢ x)) →
      ((j : ℕ) → j < place_count → j ≢ k → bit_at d (subscribed_word j) (j / 8) ≡ bit_at c (subscribed_word j) (j / 8)) →
      ((j : ℕ) → j < place_count → j ≢ k → bit_at d (member_word j) (j / 8) ≡ bit_at c (member_word j) (j / 8)) →
      TopicOnly c d k
  only x l o far s m =
      record {
        len = o.len;
        low = λ y b. o.rest y (λ e. omega arith);
        others =
            λ j b n.
            let f = far j b n in
            topic_parts c d j (o.rest used_at (λ e. omega arith)) (o.rest (counter_of j) f.0) (o.rest (p3b_at + j) f.1) (s j b n)
            (m j b n)
            (o.rest (graft_of j) f.2) (o.rest (mesh_of j) f.3);
      }

  -- a cell of no word
  cell_only :
      (x : ℕ) →
      counters_at ≤ x →
      One c d x →
      ((j : ℕ) → j < place_count → j ≢ k → (counter_of j ≢ x) × (p3b_at + j ≢ x) × (graft_of j ≢ x) × (mesh_of j ≢ x)) →
      TopicOnly c d k
  cell_only x l o far =
      only x (omega arith) o far
      (λ j b n. bit_cong c d (subscribed_word j) (j / 8) (o.rest (subscribed_word j + j / 8 / 64) (λ e. omega arith)))
      (λ j b n. bit_cong c d (member_word j) (j / 8) (o.rest (member_word j + j / 8 / 64) (λ e. omega arith)))

  pub counters_only : One c d (counter_of k) → TopicOnly c d k
  counters_only o =
      cell_only (counter_of k) (omega arith) o (λ j b n. (λ e. n (omega arith), λ e. omega arith, λ e. omega arith, λ e. omega arith))

  pub p3b_only : One c d (p3b_at + k) → TopicOnly c d k
  p3b_only o = cell_only (p3b_at + k) (omega arith) o (λ j b n. (λ e. omega arith, λ e. n (omega arith), λ e. omega arith, λ e. omega arith))

  pub graft_only : One c d (graft_of k) → TopicOnly c d k
  graft_only o =
      cell_only (graft_of k) (omega arith) o (λ j b n. (λ e. omega arith, λ e. omega arith, λ e. n (omega arith), λ e. omega arith))

  pub mesh_only : One c d (mesh_of k) → TopicOnly c d k
  mesh_only o = cell_only (mesh_of k) (omega arith) o (λ j b n. (λ e. omega arith, λ e. omega arith, λ e. omega arith, λ e. n (omega arith)))

  -- ---- the same store, seen by place k: one part is new, the others stand
  module _ (a b s m g t : ℕ) (p : Parts c k a b s m g t) where
    step :
        (x : ℕ) →
        topics_at ≤ x →
        One c d x →
        (u v y z q r : ℕ) →
        live_at d (k / 8) (counter_of k) ≡ u →
        live_at d (k / 8) (p3b_at + k) ≡ v →
        bit_at d (subscribed_word k) (k / 8) ≡ y →
        bit_at d (member_word k) (k / 8) ≡ z →
        get_or d (graft_of k) 0 ≡ q →
        get_or d (mesh_of k) 0 ≡ r →
        Parts d k u v y z q r
    step x l o u v y z q r eu ev ey ez eq er =
        record {
          size = o.len ∙ p.size;
          counters = eu;
          p3b = ev;
          subscribed = ey;
          member = ez;
          graft = eq;
          mesh = er;
        }

    used_stands : (x : ℕ) → topics_at ≤ x → One c d x → used_of d ≡ used_of c
    used_stands x l o = o.rest used_at (λ e. omega arith)

    counters_stand : (x : ℕ) → topics_at ≤ x → One c d x → counter_of k ≢ x → live_at d (k / 8) (counter_of k) ≡ a
    counters_stand x l o n = live_cong c d (k / 8) (counter_of k) (used_stands x l o) (o.rest (counter_of k) n) ∙ p.counters

    p3b_stands : (x : ℕ) → topics_at ≤ x → One c d x → p3b_at + k ≢ x → live_at d (k / 8) (p3b_at + k) ≡ b
    p3b_stands x l o n = live_cong c d (k / 8) (p3b_at + k) (used_stands x l o) (o.rest (p3b_at + k) n) ∙ p.p3b

    subscribed_stands : (x : ℕ) → One c d x → subscribed_word k + k / 8 / 64 ≢ x → bit_at d (subscribed_word k) (k / 8) ≡ s
    subscribed_stands x o n = bit_cong c d (subscribed_word k) (k / 8) (o.rest (subscribed_word k + k / 8 / 64) n) ∙ p.subscribed

    member_stands : (x : ℕ) → One c d x → member_word k + k / 8 / 64 ≢ x → bit_at d (member_word k) (k / 8) ≡ m
    member_stands x o n = bit_cong c d (member_word k) (k / 8) (o.rest (member_word k + k / 8 / 64) n) ∙ p.member

    pub counters_part : k / 8 < used_of c → (v : ℕ) → One c d (counter_of k) → get_or d (counter_of k) 0 ≡ v → Parts d k v b s m g t
    counters_part u v o e =
        step (counter_of k) (omega arith) o v b s m g t
        (live_in d (k / 8) (counter_of k) (rw (used_stands (counter_of k) (omega arith) o) u) ∙ e)
        (p3b_stands (counter_of k) (omega arith) o (λ e. omega arith))
        (subscribed_stands (counter_of k) o (λ e. omega arith))
        (member_stands (counter_of k) o (λ e. omega arith))
        (o.rest (graft_of k) (λ e. omega arith) ∙ p.graft)
        (o.rest (mesh_of k) (λ e. omega arith) ∙ p.mesh)

    pub p3b_part : k / 8 < used_of c → (v : ℕ) → One c d (p3b_at + k) → get_or d (p3b_at + k) 0 ≡ v → Parts d k a v s m g t
    p3b_part u v o e =
        step (p3b_at + k) (omega arith) o a v s m g t
        (counters_stand (p3b_at + k) (omega arith) o (λ e. omega arith))
        (live_in d (k / 8) (p3b_at + k) (rw (used_stands (p3b_at + k) (omega arith) o) u) ∙ e)
        (subscribed_stands (p3b_at + k) o (λ e. omega arith))
        (member_stands (p3b_at + k) o (λ e. omega arith))
        (o.rest (graft_of k) (λ e. omega arith) ∙ p.graft)
        (o.rest (mesh_of k) (λ e. omega arith) ∙ p.mesh)

    pub graft_part : (v : ℕ) → One c d (graft_of k) → get_or d (graft_of k) 0 ≡ v → Parts d k a b s m v t
    graft_part v o e =
        step (graft_of k) (omega arith) o a b s m v t
        (counters_stand (graft_of k) (omega arith) o (λ e. omega arith))
        (p3b_stands (graft_of k) (omega arith) o (λ e. omega arith))
        (subscribed_stands (graft_of k) o (λ e. omega arith))
        (member_stands (graft_of k) o (λ e. omega arith))
        e
        (o.rest (mesh_of k) (λ e. omega arith) ∙ p.mesh)

    pub mesh_part : (v : ℕ) → One c d (mesh_of k) → get_or d (mesh_of k) 0 ≡ v → Parts d k a b s m g v
    mesh_part v o e =
        step (mesh_of k) (omega arith) o a b s m g v
        (counters_stand (mesh_of k) (omega arith) o (λ e. omega arith))
        (p3b_stands (mesh_of k) (omega arith) o (λ e. omega arith))
        (subscribed_stands (mesh_of k) o (λ e. omega arith))
        (member_stands (mesh_of k) o (λ e. omega arith))
        (o.rest (graft_of k) (λ e. omega arith) ∙ p.graft)
        e

    pub subscribed_part : (v : ℕ) → One c d (subscribed_word k + k / 8 / 64) → bit_at d (subscribed_word k) (k / 8) ≡ v → Parts d k a b v m g t
    subscribed_part v o e =
        step (subscribed_word k + k / 8 / 64) (omega arith) o a b v m g t
        (counters_stand (subscribed_word k + k / 8 / 64) (omega arith) o (λ e. omega arith))
        (p3b_stands (subscribed_word k + k / 8 / 64) (omega arith) o (λ e. omega arith))
        e
        (member_stands (subscribed_word k + k / 8 / 64) o (λ e. omega arith))
        (o.rest (graft_of k) (λ e. omega arith) ∙ p.graft)
        (o.rest (mesh_of k) (λ e. omega arith) ∙ p.mesh)

    pub member_part : (v : ℕ) → One c d (member_word k + k / 8 / 64) → bit_at d (member_word k) (k / 8) ≡ v → Parts d k a b s v g t
    member_part v o e =
        step (member_word k + k / 8 / 64) (omega arith) o a b s v g t
        (counters_stand (member_word k + k / 8 / 64) (omega arith) o (λ e. omega arith))
        (p3b_stands (member_word k + k / 8 / 64) (omega arith) o (λ e. omega arith))
        (subscribed_stands (member_word k + k / 8 / 64) o (λ e. omega arith))
        e
        (o.rest (graft_of k) (λ e. omega arith) ∙ p.graft)
        (o.rest (mesh_of k) (λ e. omega arith) ∙ p.mesh)

-- the two words
module _ (c : List ℕ) (k : ℕ) (h : k < place_count) (z : length c ≡ cell_count) (v : ℕ) (l : v ≤ 1) where
  pub subscribed_only : TopicOnly c (set_bit c (subscribed_word k) (k / 8) v) k
  subscribed_only =
      let d = set_bit c (subscribed_word k) (k / 8) v in
      let o = one_bit c (subscribed_word k) (k / 8) v in
      only c d k h (subscribed_word k + k / 8 / 64) (omega arith) o
      (λ j b n. (λ e. omega arith, λ e. omega arith, λ e. omega arith, λ e. omega arith))
      (λ j b n. place_put_other c topics_at k v j (omega arith) l h b n)
      (λ j b n. bit_cong c d (member_word j) (j / 8) (o.rest (member_word j + j / 8 / 64) (λ e. omega arith)))

  pub member_only : TopicOnly c (set_bit c (member_word k) (k / 8) v) k
  member_only =
      let d = set_bit c (member_word k) (k / 8) v in
      let o = one_bit c (member_word k) (k / 8) v in
      only c d k h (member_word k + k / 8 / 64) (omega arith) o
      (λ j b n. (λ e. omega arith, λ e. omega arith, λ e. omega arith, λ e. omega arith))
      (λ j b n. bit_cong c d (subscribed_word j) (j / 8) (o.rest (subscribed_word j + j / 8 / 64) (λ e. omega arith)))
      (λ j b n. place_put_other c member_at k v j (omega arith) l h b n)

-- ---- a whole record, by six stores
pub topic_written :
    (c : List ℕ) (k : ℕ) (t : TopicRecord) →
    length c ≡ cell_count →
    k < place_count →
    k / 8 < used_of c →
    TopicFits t →
    (c1 c2 c3 c4 c5 c6 : List ℕ) →
    c1 ≡ set c (counter_of k) (packed t) →
    c2 ≡ set c1 (p3b_at + k) t.p3b →
    c3 ≡ set c2 (graft_of k) t.graft →
    c4 ≡ set c3 (mesh_of k) t.mesh →
    c5 ≡ set_bit c4 (subscribed_word k) (k / 8) t.subscribed →
    c6 ≡ set_bit c5 (member_word k) (k / 8) t.member →
    state_of c6 ≡ set_topic (state_of c) k t
topic_written c k t z h u f c1 c2 c3 c4 c5 c6 e1 e2 e3 e4 e5 e6 =
    let p0 = parts_of c k z in
    let o1 : One c c1 (counter_of k) = rw e1 (one_set c (counter_of k) (packed t)) in
    let v1 : get_or c1 (counter_of k) 0 ≡ packed t = rw e1 (get_or-set_same c (counter_of k) (packed t) 0 (omega arith)) in
    let p1 = counters_part c c1 k h _ _ _ _ _ _ p0 u (packed t) o1 v1 in
    let z1 = p1.size in
    let o2 : One c1 c2 (p3b_at + k) = rw e2 (one_set c1 (p3b_at + k) t.p3b) in
    let v2 : get_or c2 (p3b_at + k) 0 ≡ t.p3b = rw e2 (get_or-set_same c1 (p3b_at + k) t.p3b 0 (omega arith)) in
    let u1 : k / 8 < used_of c1 = rw (o1.rest used_at (λ e. omega arith)) u in
    let p2 = p3b_part c1 c2 k h _ _ _ _ _ _ p1 u1 t.p3b o2 v2 in
    let z2 = p2.size in
    let o3 : One c2 c3 (graft_of k) = rw e3 (one_set c2 (graft_of k) t.graft) in
    let v3 : get_or c3 (graft_of k) 0 ≡ t.graft = rw e3 (get_or-set_same c2 (graft_of k) t.graft 0 (omega arith)) in
    let p3 = graft_part c2 c3 k h _ _ _ _ _ _ p2 t.graft o3 v3 in
    let z3 = p3.size in
    let o4 : One c3 c4 (mesh_of k) = rw e4 (one_set c3 (mesh_of k) t.mesh) in
    let v4 : get_or c4 (mesh_of k) 0 ≡ t.mesh = rw e4 (get_or-set_same c3 (mesh_of k) t.mesh 0 (omega arith)) in
    let p4 = mesh_part c3 c4 k h _ _ _ _ _ _ p3 t.mesh o4 v4 in
    let z4 = p4.size in
    let o5 : One c4 c5 (subscribed_word k + k / 8 / 64) = rw e5 (one_bit c4 (subscribed_word k) (k / 8) t.subscribed) in
    let v5 : bit_at c5 (subscribed_word k) (k / 8) ≡ t.subscribed =
    rw e5 (bit_put_same c4 (subscribed_word k) (k / 8) t.subscribed (omega arith) f.subscribed) in
    let p5 = subscribed_part c4 c5 k h _ _ _ _ _ _ p4 t.subscribed o5 v5 in
    let z5 = p5.size in
    let o6 : One c5 c6 (member_word k + k / 8 / 64) = rw e6 (one_bit c5 (member_word k) (k / 8) t.member) in
    let v6 : bit_at c6 (member_word k) (k / 8) ≡ t.member =
    rw e6 (bit_put_same c5 (member_word k) (k / 8) t.member (omega arith) f.member) in
    let p6 = member_part c5 c6 k h _ _ _ _ _ _ p5 t.member o6 v6 in
    let s5 : TopicOnly c4 c5 k = rw e5 (subscribed_only c4 k h z4 t.subscribed f.subscribed) in
    let s6 : TopicOnly c5 c6 k = rw e6 (member_only c5 k h z5 t.member f.member) in
    topic_store c c6 k t
    (topic_then c c1 c6 k (counters_only c c1 k h o1)
    (topic_then c1 c2 c6 k (p3b_only c1 c2 k h o2)
    (topic_then c2 c3 c6 k (graft_only c2 c3 k h o3)
    (topic_then c3 c4 c6 k (mesh_only c3 c4 k h o4)
    (topic_then c4 c5 c6 k s5 s6)))))
    (parts_topic c6 k _ _ _ _ _ _ p6 ∙ topic_back t f)

-- the stores keep the length
pub length_five :
    (c r : List ℕ) (a b d e u v w x o s y : ℕ) →
    r ≡ set_bit (set (set (set (set c a u) b v) d w) e x) o s y →
    length r ≡ length c
length_five c r a b d e u v w x o s y q =
    ap length q ∙ length_bit (set (set (set (set c a u) b v) d w) e x) o s y ∙ length-set (set (set (set c a u) b v) d w) e x
    ∙ length-set (set (set c a u) b v) d w
    ∙ length-set (set c a u) b v
    ∙ length-set c a u

pub length_six : (c r t : List ℕ) (o s y : ℕ) → length r ≡ length c → t ≡ set_bit r o s y → length t ≡ length c
length_six c r t o s y l q = ap length q ∙ length_bit r o s y ∙ l

-- ---- one bit, one record
module _ (c : List ℕ) (k : ℕ) (z : length c ≡ cell_count) (h : k < place_count) where
  abbrev a : ℕ
  a = live_at c (k / 8) (counter_of k)

  abbrev b : ℕ
  b = live_at c (k / 8) (p3b_at + k)

  abbrev s : ℕ
  s = bit_at c (subscribed_word k) (k / 8)

  abbrev m : ℕ
  m = bit_at c (member_word k) (k / 8)

  abbrev g : ℕ
  g = get_or c (graft_of k) 0

  abbrev t : ℕ
  t = get_or c (mesh_of k) 0

  there : topic_raw a b s m g t ≡ topic_in (state_of c) k
  there = sym (parts_topic c k a b s m g t (parts_of c k z)) ∙ topic_load c k h

  pub subscribed_written :
      (v : ℕ) → v ≤ 1 → state_of (set_bit c (subscribed_word k) (k / 8) v)
      ≡ set_topic (state_of c) k (with_subscription (topic_in (state_of c) k) v)
  subscribed_written v l =
      let d = set_bit c (subscribed_word k) (k / 8) v in
      let p =
      subscribed_part c d k h a b s m g t (parts_of c k z) v (one_bit c (subscribed_word k) (k / 8) v)
      (bit_put_same c (subscribed_word k) (k / 8) v (omega arith) l) in
      topic_store c d k (with_subscription (topic_in (state_of c) k) v) (subscribed_only c k h z v l)
      (parts_topic d k a b v m g t p ∙ raw_subscribed a b s m g t v ∙ ap (λ r. with_subscription r v) there)

  pub out_written : state_of (set_bit c (member_word k) (k / 8) 0) ≡ set_topic (state_of c) k (without_member (topic_in (state_of c) k))
  out_written =
      let d = set_bit c (member_word k) (k / 8) 0 in
      let p =
      member_part c d k h a b s m g t (parts_of c k z) 0 (one_bit c (member_word k) (k / 8) 0)
      (bit_put_same c (member_word k) (k / 8) 0 (omega arith) (omega arith)) in
      topic_store c d k (without_member (topic_in (state_of c) k)) (member_only c k h z 0 (omega arith))
      (parts_topic d k a b s 0 g t p ∙ raw_out a b s m g t ∙ ap without_member there)

  pub into_written :
      (time : ℕ) →
      state_of (set_bit (set (set c (graft_of k) time) (mesh_of k) 0) (member_word k) (k / 8) 1)
      ≡ set_topic (state_of c) k (with_member (topic_in (state_of c) k) time)
  into_written time =
      let c1 = set c (graft_of k) time in
      let c2 = set c1 (mesh_of k) 0 in
      let d = set_bit c2 (member_word k) (k / 8) 1 in
      let o1 = one_set c (graft_of k) time in
      let p1 = graft_part c c1 k h a b s m g t (parts_of c k z) time o1 (get_or-set_same c (graft_of k) time 0 (omega arith)) in
      let z1 = p1.size in
      let o2 = one_set c1 (mesh_of k) 0 in
      let p2 = mesh_part c1 c2 k h a b s m time t p1 0 o2 (get_or-set_same c1 (mesh_of k) 0 0 (omega arith)) in
      let z2 = p2.size in
      let p3 =
      member_part c2 d k h a b s m time 0 p2 1 (one_bit c2 (member_word k) (k / 8) 1)
      (bit_put_same c2 (member_word k) (k / 8) 1 (omega arith) (omega arith)) in
      topic_store c d k (with_member (topic_in (state_of c) k) time)
      (topic_then c c1 d k (graft_only c c1 k h o1) (topic_then c1 c2 d k (mesh_only c1 c2 k h o2) (member_only c2 k h z2 1 (omega arith))))
      (parts_topic d k a b s 1 time 0 p3 ∙ raw_into a b s m g t time ∙ ap (λ r. with_member r time) there)
