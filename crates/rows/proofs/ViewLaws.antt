-- Laws of the state that a table holds: what a load reads, and what a store changes.
-- Assumes nothing.
use Prim.Native.Nat.{ℕ, zero, suc, ◌+◌, ◌*◌, ◌≤◌, ◌<◌}
use mathlib.Core.Path.{◌≡◌, refl, sym, ap, ◌∙◌, subst}
use mathlib.Core.List.{List, [], ◌∷◌, map}
use native.Mathlib.Nat.{add-zero}
use native.Mathlib.Omega.{arith}
use lib.ListN.{length, get_or, set, take, drop, get_or-map}
use Rattle.records.specs.declared.Setup.{Setup}
use Rattle.records.specs.declared.Peer.{Peer}
use Rattle.records.specs.declared.TopicRecord.{TopicRecord}
use Rattle.records.specs.Records.{no_topic, joined_in, code_in, peer_in, topic_in, set_clock, set_joined, set_peer, set_topic, slot_count, topic_count}
use Rattle.records.specs.Records.{param_count}
use Rattle.layout.specs.Rows.{tab, put}
use Rattle.rows.specs.Rows.{span, rows}
use Rattle.layout.specs.View.{place_count}
use Rattle.rows.specs.View.{joined_at, codes_at, setup_at, setup_cells, peers_at, peer_cells, topics_at, topic_cells, rows_count}
use Rattle.layout.specs.View.{set_codes}
use Rattle.rows.specs.View.{setup_of, peer_of, topic_of, peer_from, topic_from, cells_of_peer, cells_of_topic, state_of_rows}
use Rattle.layout.specs.View.{set_setup}
use Rattle.layout.proofs.RowLaws.{tab_get_or}
use Rattle.rows.proofs.RowLaws.{get_d_rows, rows_put_same, rows_put_before, rows_put_after}
use Rattle.layout.proofs.RowLaws.{get_or_put_before, get_or_put_in}
use Rattle.rows.proofs.RowLaws.{span_put_before, span_put_after, put_one, span_put_one}
use Rattle.rows.proofs.RowLaws.{span_put_same, span_part, get_or_span}

pub map_set : {A B : Type 0} (f : A → B) (l : List A) (i : ℕ) (v : A) → map f (set l i v) ≡ set (map f l) i (f v)
map_set f [] i v = refl
map_set f (x ∷ xs) zero v = refl
map_set f (x ∷ xs) (suc i) v = ap (λ r. f x ∷ r) (map_set f xs i v)

-- ---- a load

pub clock_load : (cells : List ℕ) → get_or cells 0 0 ≡ (state_of_rows cells).clock
unfolding state_of_rows
clock_load cells = refl

pub joined_load : (cells : List ℕ) (t : ℕ) → t < topic_count → get_or cells (joined_at + t) 0 ≡ joined_in (state_of_rows cells) t
unfolding state_of_rows joined_in
joined_load cells t h = sym (get_or_span cells joined_at topic_count t h)

pub code_load : (cells : List ℕ) (i : ℕ) → i < param_count → get_or cells (codes_at + i) 0 ≡ code_in (state_of_rows cells) i
unfolding state_of_rows code_in
code_load cells i h = sym (get_or_span cells codes_at param_count i h)

-- the cells of a slot
row_of_lem : (cells : List ℕ) (s : ℕ) → s < slot_count → peer_of (span cells (peers_at + s * peer_cells) peer_cells) ≡ peer_in (state_of_rows cells) s
unfolding peer_in state_of_rows peer_of
row_of_lem cells s h =
    sym (get_or-map peer_of (rows cells peers_at peer_cells slot_count) s [] ∙ ap peer_of (get_d_rows cells peers_at peer_cells slot_count s h))

pub peer_load : (cells : List ℕ) (s : ℕ) → s < slot_count → peer_from cells (peers_at + s * peer_cells) ≡ peer_in (state_of_rows cells) s
unfolding peer_of span
peer_load cells s h = sym (rw add-zero refl) ∙ row_of_lem cells s h

pub topic_load : (cells : List ℕ) (k : ℕ) → k < place_count → topic_from cells (topics_at + k * topic_cells) ≡ topic_in (state_of_rows cells) k
unfolding topic_in state_of_rows topic_of span
topic_load cells k h =
    let e : get_or (map topic_of (rows cells topics_at topic_cells place_count)) k no_topic
    ≡ topic_of (span cells (topics_at + k * topic_cells) topic_cells) =
    get_or-map topic_of (rows cells topics_at topic_cells place_count) k []
    ∙ ap topic_of (get_d_rows cells topics_at topic_cells place_count k h) in
    sym (e ∙ rw add-zero)

pub setup_load : (cells : List ℕ) → record { edition = get_or cells setup_at 0 } ≡ (state_of_rows cells).setup
unfolding state_of_rows setup_of span
setup_load cells = refl

pub codes_load : (cells : List ℕ) → length cells ≡ rows_count → take param_count (drop codes_at cells) ≡ (state_of_rows cells).codes
unfolding state_of_rows
codes_load cells e = span_part cells codes_at param_count (omega arith)

-- ---- a record, to cells and back

eight :
    (l : List ℕ) →
    length l ≡ 8 →
    get_or l 0 0 ∷ get_or l 1 0 ∷ get_or l 2 0 ∷ get_or l 3 0 ∷ get_or l 4 0 ∷ get_or l 5 0 ∷ get_or l 6 0 ∷ get_or l 7 0 ∷ [] ≡ l
eight l e = subst (λ n. tab n (λ k. get_or l k 0) ≡ l) e (tab_get_or l 0)

pub peer_back : (p : Peer) → length p.backoff ≡ 8 → peer_of (cells_of_peer p) ≡ p
unfolding peer_of cells_of_peer
peer_back p e =
    λ i. record {
      status = p.status;
      id = p.id;
      groups = p.groups;
      outbound = p.outbound;
      explicit = p.explicit;
      version = p.version;
      p5 = p.p5;
      p7 = p.p7;
      retain = p.retain;
      backoff = eight p.backoff e i;
    }

pub topic_back : (t : TopicRecord) → topic_of (cells_of_topic t) ≡ t
unfolding topic_of cells_of_topic
topic_back t = refl

pub peer_count : (p : Peer) → length (cells_of_peer p) ≡ peer_cells
unfolding cells_of_peer
peer_count p = refl

pub topic_count_lem : (t : TopicRecord) → length (cells_of_topic t) ≡ topic_cells
unfolding cells_of_topic
topic_count_lem t = refl

-- ---- a store

module _ (cells : List ℕ) (size : length cells ≡ rows_count) where
  pub clock_store : (n : ℕ) → state_of_rows (set cells 0 n) ≡ set_clock (state_of_rows cells) n
  unfolding state_of_rows set_clock
  clock_store n =
      let f : 0 + length (n ∷ []) ≤ length cells = omega arith in
      ap state_of_rows (sym (put_one cells 0 n (omega arith)))
      ∙ λ i. record {
        clock = get_or_put_in cells 0 (n ∷ []) f 0 (omega arith) i;
        joined = span_put_after cells 0 (n ∷ []) f joined_at topic_count (omega arith) i;
        codes = span_put_after cells 0 (n ∷ []) f codes_at param_count (omega arith) i;
        setup = ap setup_of (span_put_after cells 0 (n ∷ []) f setup_at setup_cells (omega arith)) i;
        peers = ap (map peer_of) (rows_put_after cells peers_at peer_cells slot_count 0 (n ∷ []) f (omega arith)) i;
        topics = ap (map topic_of) (rows_put_after cells topics_at topic_cells place_count 0 (n ∷ []) f (omega arith)) i;
      }

  pub joined_store : (t b : ℕ) → t < topic_count → state_of_rows (set cells (joined_at + t) b) ≡ set_joined (state_of_rows cells) t b
  unfolding state_of_rows set_joined
  joined_store t b h =
      let f : (joined_at + t) + length (b ∷ []) ≤ length cells = omega arith in
      ap state_of_rows (sym (put_one cells (joined_at + t) b (omega arith)))
      ∙ λ i. record {
        clock = get_or_put_before cells (joined_at + t) (b ∷ []) f 0 (omega arith) i;
        joined = span_put_one cells joined_at topic_count t b h (omega arith) i;
        codes = span_put_after cells (joined_at + t) (b ∷ []) f codes_at param_count (omega arith) i;
        setup = ap setup_of (span_put_after cells (joined_at + t) (b ∷ []) f setup_at setup_cells (omega arith)) i;
        peers = ap (map peer_of) (rows_put_after cells peers_at peer_cells slot_count (joined_at + t) (b ∷ []) f (omega arith)) i;
        topics = ap (map topic_of) (rows_put_after cells topics_at topic_cells place_count (joined_at + t) (b ∷ []) f (omega arith)) i;
      }

  pub codes_store :
      (vs : List ℕ) → length vs ≡ param_count → state_of_rows (put cells codes_at vs) ≡ set_codes (state_of_rows cells) vs
  unfolding state_of_rows set_codes
  codes_store vs e =
      let f : codes_at + length vs ≤ length cells = omega arith in
      λ i. record {
        clock = get_or_put_before cells codes_at vs f 0 (omega arith) i;
        joined = span_put_before cells codes_at vs f joined_at topic_count (omega arith) i;
        codes = (ap (span (put cells codes_at vs) codes_at) (sym e) ∙ span_put_same cells codes_at vs f) i;
        setup = ap setup_of (span_put_after cells codes_at vs f setup_at setup_cells (omega arith)) i;
        peers = ap (map peer_of) (rows_put_after cells peers_at peer_cells slot_count codes_at vs f (omega arith)) i;
        topics = ap (map topic_of) (rows_put_after cells topics_at topic_cells place_count codes_at vs f (omega arith)) i;
      }

  pub setup_store : (u : Setup) → state_of_rows (set cells setup_at u.edition) ≡ set_setup (state_of_rows cells) u
  unfolding state_of_rows set_setup setup_of
  setup_store u =
      let n = u.edition in
      let f : setup_at + length (n ∷ []) ≤ length cells = omega arith in
      ap state_of_rows (sym (put_one cells setup_at n (omega arith)))
      ∙ λ i. record {
        clock = get_or_put_before cells setup_at (n ∷ []) f 0 (omega arith) i;
        joined = span_put_before cells setup_at (n ∷ []) f joined_at topic_count (omega arith) i;
        codes = span_put_before cells setup_at (n ∷ []) f codes_at param_count (omega arith) i;
        setup = ap setup_of (span_put_same cells setup_at (n ∷ []) f) i;
        peers = ap (map peer_of) (rows_put_after cells peers_at peer_cells slot_count setup_at (n ∷ []) f (omega arith)) i;
        topics = ap (map topic_of) (rows_put_after cells topics_at topic_cells place_count setup_at (n ∷ []) f (omega arith)) i;
      }

  pub peer_store :
      (s : ℕ) (p : Peer) →
      s < slot_count →
      length p.backoff ≡ 8 →
      state_of_rows (put cells (peers_at + s * peer_cells) (cells_of_peer p)) ≡ set_peer (state_of_rows cells) s p
  unfolding state_of_rows set_peer
  peer_store s p h e =
      let n : length (cells_of_peer p) ≡ peer_cells = peer_count p in
      let f : (peers_at + s * peer_cells) + length (cells_of_peer p) ≤ length cells = omega arith in
      λ i. record {
        clock = get_or_put_before cells (peers_at + s * peer_cells) (cells_of_peer p) f 0 (omega arith) i;
        joined = span_put_before cells (peers_at + s * peer_cells) (cells_of_peer p) f joined_at topic_count (omega arith) i;
        codes = span_put_before cells (peers_at + s * peer_cells) (cells_of_peer p) f codes_at param_count (omega arith) i;
        setup = ap setup_of (span_put_before cells (peers_at + s * peer_cells) (cells_of_peer p) f setup_at setup_cells (omega arith)) i;
        peers =
            (ap (map peer_of) (rows_put_same cells peers_at peer_cells slot_count s (cells_of_peer p) h n (omega arith))
            ∙ map_set peer_of (rows cells peers_at peer_cells slot_count) s (cells_of_peer p)
            ∙ ap (set (map peer_of (rows cells peers_at peer_cells slot_count)) s) (peer_back p e)) i;
        topics = ap (map topic_of)
            (rows_put_after cells topics_at topic_cells place_count (peers_at + s * peer_cells) (cells_of_peer p) f (omega arith)) i;
      }

  pub topic_store :
      (k : ℕ) (t : TopicRecord) →
      k < place_count →
      state_of_rows (put cells (topics_at + k * topic_cells) (cells_of_topic t)) ≡ set_topic (state_of_rows cells) k t
  unfolding state_of_rows set_topic
  topic_store k t h =
      let n : length (cells_of_topic t) ≡ topic_cells = topic_count_lem t in
      let f : (topics_at + k * topic_cells) + length (cells_of_topic t) ≤ length cells = omega arith in
      λ i. record {
        clock = get_or_put_before cells (topics_at + k * topic_cells) (cells_of_topic t) f 0 (omega arith) i;
        joined = span_put_before cells (topics_at + k * topic_cells) (cells_of_topic t) f joined_at topic_count (omega arith) i;
        codes = span_put_before cells (topics_at + k * topic_cells) (cells_of_topic t) f codes_at param_count (omega arith) i;
        setup = ap setup_of (span_put_before cells (topics_at + k * topic_cells) (cells_of_topic t) f setup_at setup_cells (omega arith)) i;
        peers = ap (map peer_of)
            (rows_put_before cells peers_at peer_cells slot_count (topics_at + k * topic_cells) (cells_of_topic t) f (omega arith)) i;
        topics =
            (ap (map topic_of) (rows_put_same cells topics_at topic_cells place_count k (cells_of_topic t) h n (omega arith))
            ∙ map_set topic_of (rows cells topics_at topic_cells place_count) k (cells_of_topic t)
            ∙ ap (set (map topic_of (rows cells topics_at topic_cells place_count)) k) (topic_back t)) i;
      }
