-- The state and the table determine each other.
-- Assumes nothing.
use Prim.Native.Nat.{ℕ, zero, suc, ◌+◌, ◌*◌}
use mathlib.Core.Path.{◌≡◌, refl, sym, ap, ◌∙◌}
use mathlib.Core.List.{List, [], ◌∷◌, ◌++◌, map}
use native.Mathlib.Nat.{suc-mul, zero-mul, add-zero, zero-add, add_assoc, add_comm}
use native.Mathlib.Omega.{arith}
use lib.ListN.{length, get_or, length-append}
use Rattle.records.specs.declared.Peer.{Peer}
use Rattle.records.specs.declared.TopicRecord.{TopicRecord}
use Rattle.records.specs.Records.{State, no_peer, peer_in, slot_count, topic_count, param_count}
use Rattle.layout.specs.Rows.{tab}
use Rattle.rows.specs.Rows.{span, rows, joins}
use Rattle.layout.specs.View.{place_count}
use Rattle.rows.specs.View.{joined_at, codes_at, setup_at, setup_cells, peers_at, peer_cells, topics_at, topic_cells, rows_count}
use Rattle.layout.specs.View.{Sized}
use Rattle.rows.specs.View.{setup_of, peer_of, topic_of, cells_of_setup, cells_of_peer, cells_of_topic, state_of_rows, cells_of}
use Rattle.layout.proofs.RowLaws.{tab_same}
use Rattle.rows.proofs.RowLaws.{span_all, span_left, span_right, rows_left, rows_right, length_joins, rows_joins}
use Rattle.rows.proofs.ViewLaws.{peer_back, topic_back, peer_count, topic_count_lem}

tab_append : {A : Type 0} (m n : ℕ) (f : ℕ → A) → tab m f ++ tab n (λ k. f (m + k)) ≡ tab (m + n) f
tab_append zero n f = tab_same n (λ k. f (0 + k)) f (λ k h. ap f (zero-add k)) ∙ ap (λ k. tab k f) (sym (zero-add n))
tab_append (suc m) n f =
    let e : suc m + n ≡ suc (m + n) = omega arith in
    ap (λ l. f zero ∷ (tab m (λ k. f (suc k)) ++ l)) (tab_same n (λ k. f (suc m + k)) (λ k. f (suc (m + k))) (λ k h. ap f (shift k)))
    ∙ ap (λ l. f zero ∷ l) (tab_append m n (λ k. f (suc k)))
    ∙ ap (λ k. tab k f) (sym e)
  where
    shift : (k : ℕ) → suc m + k ≡ suc (m + k)
    shift k = omega arith

pub span_append : (c : List ℕ) (at m n : ℕ) → span c at m ++ span c (at + m) n ≡ span c at (m + n)
unfolding span
span_append c at m n =
    ap (λ l. tab m (λ k. get_or c (at + k) 0) ++ l)
    (tab_same n (λ k. get_or c ((at + m) + k) 0) (λ k. get_or c (at + (m + k)) 0) (λ k h. ap (λ i. get_or c i 0) (add_assoc at m k)))
    ∙ tab_append m n (λ k. get_or c (at + k) 0)

-- the records of a region, one after the other, are the region's cells
joins_rows : {A : Type 0} (g : List ℕ → A) (f : A → List ℕ) (c : List ℕ) (w : ℕ)
    → ((at : ℕ) → f (g (span c at w)) ≡ span c at w)
    → (o n : ℕ) → joins f (map g (rows c o w n)) ≡ span c o (n * w)
unfolding joins rows span
joins_rows g f c w back o zero = ap (λ k. span c o k) (sym (zero-mul w))
joins_rows g f c w back o (suc n) =
    ap (λ l. l ++ joins f (map g (tab n (λ i. span c (o + suc i * w) w)))) (back (o + 0 * w) ∙ ap (λ k. span c k w) first)
    ∙ ap (λ l. span c o w ++ joins f (map g l))
    (tab_same n (λ i. span c (o + suc i * w) w) (λ i. span c ((o + w) + i * w) w) (λ i h. ap (λ k. span c k w) (step i)))
    ∙ ap (λ l. span c o w ++ l) (joins_rows g f c w back (o + w) n)
    ∙ span_append c o w (n * w)
    ∙ ap (λ k. span c o k) (add_comm w (n * w) ∙ sym (suc-mul n w))
  where
    first : o + 0 * w ≡ o
    first = ap (λ k. o + k) (zero-mul w) ∙ add-zero o

    step : (i : ℕ) → o + suc i * w ≡ (o + w) + i * w
    step i = let e : suc i * w ≡ i * w + w = suc-mul i w in omega arith

peer_cells_lem : (c : List ℕ) (at : ℕ) → cells_of_peer (peer_of (span c at peer_cells)) ≡ span c at peer_cells
unfolding cells_of_peer peer_of span
peer_cells_lem c at = refl

topic_cells_lem : (c : List ℕ) (at : ℕ) → cells_of_topic (topic_of (span c at topic_cells)) ≡ span c at topic_cells
unfolding cells_of_topic topic_of span
topic_cells_lem c at = refl

setup_cells_lem : (c : List ℕ) (at : ℕ) → cells_of_setup (setup_of (span c at setup_cells)) ≡ span c at setup_cells
unfolding cells_of_setup setup_of span
setup_cells_lem c at = refl

head : (c : List ℕ) → get_or c 0 0 ∷ span c joined_at topic_count ≡ span c 0 codes_at
unfolding span
head c = refl

-- a table of the right length is the cells of its state
pub whole : (c : List ℕ) → length c ≡ rows_count → cells_of (state_of_rows c) ≡ c
unfolding cells_of state_of_rows
whole c e =
    let peers = joins cells_of_peer (map peer_of (rows c peers_at peer_cells slot_count)) in
    let topics = joins cells_of_topic (map topic_of (rows c topics_at topic_cells place_count)) in
    let setup = cells_of_setup (setup_of (span c setup_at setup_cells)) in
    ap (λ l. l ++ span c codes_at param_count ++ setup ++ peers ++ topics) (head c)
    ∙ ap (λ l. l ++ setup ++ peers ++ topics) (span_append c 0 codes_at param_count)
    ∙ ap (λ l. span c 0 setup_at ++ l ++ peers ++ topics) (setup_cells_lem c setup_at)
    ∙ ap (λ l. l ++ peers ++ topics) (span_append c 0 setup_at setup_cells)
    ∙ ap (λ l. span c 0 peers_at ++ l ++ topics) (joins_rows peer_of cells_of_peer c peer_cells (peer_cells_lem c) peers_at slot_count)
    ∙ ap (λ l. span c 0 peers_at ++ span c peers_at (slot_count * peer_cells) ++ l)
    (joins_rows topic_of cells_of_topic c topic_cells (topic_cells_lem c) topics_at place_count)
    ∙ ap (λ l. l ++ span c topics_at (place_count * topic_cells)) (span_append c 0 peers_at (slot_count * peer_cells))
    ∙ span_append c 0 topics_at (place_count * topic_cells)
    ∙ ap (λ n. span c 0 n) (sym e)
    ∙ span_all c

-- the state fixes every cell
pub determined : (a b : List ℕ) → length a ≡ rows_count → length b ≡ rows_count → state_of_rows a ≡ state_of_rows b → a ≡ b
determined a b p q e = sym (whole a p) ∙ ap cells_of e ∙ whole b q

-- ---- and the other way: a state of a table's sizes is the state of its cells

peers_back : (l : List Peer) → ((k : ℕ) → length (get_or l k no_peer).backoff ≡ 8) → map peer_of (map cells_of_peer l) ≡ l
peers_back [] h = refl
peers_back (p ∷ l) h = λ i. peer_back p (h zero) i ∷ peers_back l (λ k. h (suc k)) i

topics_back : (l : List TopicRecord) → map topic_of (map cells_of_topic l) ≡ l
topics_back [] = refl
topics_back (t ∷ l) = λ i. topic_back t i ∷ topics_back l i

module _ (st : State) (size : Sized st) where
  -- the table up to the codes, up to the set-up, up to the peers, up to the topic records
  abbrev header : List ℕ
  header = st.clock ∷ st.joined

  abbrev coded : List ℕ
  coded = header ++ st.codes

  abbrev fronted : List ℕ
  fronted = coded ++ cells_of_setup st.setup

  abbrev peered : List ℕ
  peered = fronted ++ joins cells_of_peer st.peers

  header_length : length header ≡ codes_at
  header_length = ap suc size.joined

  coded_length : length coded ≡ setup_at
  coded_length = length-append header st.codes ∙ omega (arith, header_length, size.codes)

  fronted_length : length fronted ≡ peers_at
  unfolding cells_of_setup
  fronted_length = length-append coded (cells_of_setup st.setup) ∙ omega (arith, coded_length)

  peered_length : length peered ≡ topics_at
  peered_length =
      length-append fronted (joins cells_of_peer st.peers)
      ∙ omega (arith, fronted_length, length_joins cells_of_peer peer_cells peer_count st.peers, size.peers)

  pub cells_length : length (cells_of st) ≡ rows_count
  unfolding cells_of
  cells_length =
      length-append peered (joins cells_of_topic st.topics)
      ∙ omega (arith, peered_length, length_joins cells_of_topic topic_cells topic_count_lem st.topics, size.topics)

  pub back : state_of_rows (cells_of st) ≡ st
  unfolding state_of_rows cells_of setup_of cells_of_setup span peer_in
  back =
      let setup : List ℕ = cells_of_setup st.setup in
      let topics : List ℕ = joins cells_of_topic st.topics in
      let peers : List ℕ = joins cells_of_peer st.peers in
      λ i. record {
        clock = st.clock;
        joined =
            (span_left peered topics joined_at topic_count (omega (arith, peered_length))
            ∙ span_left fronted peers joined_at topic_count (omega (arith, fronted_length))
            ∙ span_left coded setup joined_at topic_count (omega (arith, coded_length))
            ∙ span_left header st.codes joined_at topic_count (omega (arith, header_length))
            ∙ span_right (st.clock ∷ []) st.joined 0 8
            ∙ ap (span st.joined 0) (sym size.joined)
            ∙ span_all st.joined) i;
        codes =
            (span_left peered topics codes_at param_count (omega (arith, peered_length))
            ∙ span_left fronted peers codes_at param_count (omega (arith, fronted_length))
            ∙ span_left coded setup codes_at param_count (omega (arith, coded_length))
            ∙ ap (λ n. span coded n param_count) (sym (add-zero (length header) ∙ header_length))
            ∙ span_right header st.codes 0 param_count
            ∙ ap (span st.codes 0) (sym size.codes)
            ∙ span_all st.codes) i;
        setup =
            ap setup_of
            (span_left peered topics setup_at setup_cells (omega (arith, peered_length))
            ∙ span_left fronted peers setup_at setup_cells (omega (arith, fronted_length))
            ∙ ap (λ n. span fronted n setup_cells) (sym (add-zero (length coded) ∙ coded_length))
            ∙ span_right coded setup 0 setup_cells) i;
        peers =
            (ap (map peer_of)
            (rows_left peered topics peers_at peer_cells slot_count (omega (arith, peered_length))
            ∙ ap (λ n. rows peered n peer_cells slot_count) (sym (add-zero (length fronted) ∙ fronted_length))
            ∙ rows_right fronted peers 0 peer_cells slot_count
            ∙ ap (rows peers 0 peer_cells) (sym size.peers)
            ∙ rows_joins cells_of_peer peer_cells peer_count st.peers)
            ∙ peers_back st.peers size.ends) i;
        topics =
            (ap (map topic_of)
            (ap (λ n. rows (peered ++ topics) n topic_cells place_count) (sym (add-zero (length peered) ∙ peered_length))
            ∙ rows_right peered topics 0 topic_cells place_count
            ∙ ap (rows topics 0 topic_cells) (sym size.topics)
            ∙ rows_joins cells_of_topic topic_cells topic_count_lem st.topics)
            ∙ topics_back st.topics) i;
      }
