-- A fresh table: zeros in the head, the parameters and the words are enough; every other cell is out of use.
-- Assumes nothing.
use Prim.Native.Nat.{ℕ, ◌+◌, ◌*◌, ◌/◌, ◌%◌, ◌^◌, ◌≤◌, ◌<◌}
use mathlib.Core.Path.{◌≡◌, refl, ap, ◌∙◌}
use mathlib.Core.Bool.{Bool, true, false}
use mathlib.Core.List.{List}
use native.Mathlib.Omega.{arith}
use native.Mathlib.Nat.{zero-div}
use lib.ListN.{get_or, replicate, length-replicate, get_or-replicate, get_or-eq_default}
use Rattle.index.proofs.Flags.{by_order}
use Rattle.records.specs.Records.{no_peer, no_topic}
use Rattle.records.specs.Records.{param_count}
use Rattle.layout.specs.Rows.{tab}
use Rattle.layout.proofs.RowLaws.{tab_const, tab_same}
use Rattle.records.specs.Records.{slot_count}
use Rattle.layout.specs.View.{place_count, joined_at, used_at, setup_at, setup_of, params_at, peers_at, id_at, column_of, ends_at}
use Rattle.layout.specs.View.{topics_at, counters_at, p3b_at, bit_at, live_at, counter_of, graft_of, mesh_of, subscribed_word, member_word}
use Rattle.layout.specs.View.{topic_raw, topic_at, peer_raw, ends_of, peer_at, below, code_for, code_at, param_place, table, state_of}
use Rattle.layout.specs.View.{zero_state}
use Rattle.layout.proofs.ViewLaws.{table_same, live_out, place_low}

table_const : {A : Type 0} (n : ℕ) (x : A) → table n (λ k. x) ≡ replicate n x
unfolding table
table_const n x = tab_const n x

module _ (c : List ℕ) (low : (x : ℕ) → x < id_at → get_or c x 0 ≡ 0) (words : (x : ℕ) → topics_at ≤ x → x < counters_at → get_or c x 0 ≡ 0) where
  bit_zero : (o s : ℕ) → get_or c (o + s / 64) 0 ≡ 0 → bit_at c o s ≡ 0
  unfolding bit_at
  bit_zero o s e = ap (λ w. w / 2 ^ (s % 64) % 2) e ∙ ap (λ w. w % 2) (zero-div (2 ^ (s % 64)))

  live_zero : (s x : ℕ) → live_at c s x ≡ 0
  live_zero s x = live_out c s x (let u = low used_at (omega arith) in omega arith)

  peer_zero : (s : ℕ) → s < slot_count → peer_at c s ≡ no_peer
  unfolding peer_at peer_raw ends_of
  peer_zero s h =
      let b : (p : ℕ) → p < 6 → bit_at c (peers_at + p * 4) s ≡ 0 =
      λ p l. bit_zero (peers_at + p * 4) s (low (peers_at + p * 4 + s / 64) (omega arith)) in
      let e : tab 8 (λ t. live_at c s (ends_at + s * 8 + t)) ≡ tab 8 (λ t. 0) =
      tab_same 8 (λ t. live_at c s (ends_at + s * 8 + t)) (λ t. 0) (λ t l. live_zero s (ends_at + s * 8 + t)) in
      let z : (j : ℕ) → live_at c s (column_of j s) ≡ 0 = λ j. live_zero s (column_of j s) in
      λ i. peer_raw (b 0 (omega arith) i) (b 1 (omega arith) i) (b 2 (omega arith) i) (b 3 (omega arith) i) (b 4 (omega arith) i)
      (b 5 (omega arith) i) (z 0 i) (z 1 i) (z 2 i) (z 3 i) (z 4 i) (z 5 i) (z 6 i) (e i)

  topic_zero : (k : ℕ) → k < place_count → topic_at c k ≡ no_topic
  unfolding topic_at topic_raw
  topic_zero k h =
      let s = bit_zero (subscribed_word k) (k / 8) (words (subscribed_word k + k / 8 / 64) (omega arith) (omega arith)) in
      let m = bit_zero (member_word k) (k / 8) (words (member_word k + k / 8 / 64) (omega arith) (omega arith)) in
      λ i. topic_raw (live_zero (k / 8) (counter_of k) i) (live_zero (k / 8) (p3b_at + k) i) (s i) (m i) (get_or c (graft_of k) 0)
      (get_or c (mesh_of k) 0)

  code_zero : (i : ℕ) → i < param_count → code_at c i ≡ 0
  unfolding code_at code_for
  code_zero i h = ap (code_for (below i)) (low (params_at + param_place i) (let l = place_low i h in omega arith)) ∙ none (below i)
    where
      none : (b : Bool) → code_for b 0 ≡ 0
      none true = refl
      none false = refl

  setup_zero : setup_of c ≡ record { edition = 0 }
  unfolding setup_of
  setup_zero = let e = low setup_at (omega arith) in λ i. record { edition = e i }

  fresh_form : state_of c ≡ zero_state
  unfolding state_of zero_state
  fresh_form =
      let j : table 8 (λ t. get_or c (joined_at + t) 0) ≡ replicate 8 0 =
      table_same 8 (λ t. get_or c (joined_at + t) 0) (λ t. 0) (λ t l. low (joined_at + t) (omega arith)) ∙ table_const 8 0 in
      let k : table param_count (code_at c) ≡ replicate param_count 0 =
      table_same param_count (code_at c) (λ i. 0) code_zero ∙ table_const param_count 0 in
      let p : table slot_count (peer_at c) ≡ replicate slot_count no_peer =
      table_same slot_count (peer_at c) (λ s. no_peer) peer_zero ∙ table_const slot_count no_peer in
      let t : table place_count (topic_at c) ≡ replicate place_count no_topic =
      table_same place_count (topic_at c) (λ k. no_topic) topic_zero ∙ table_const place_count no_topic in
      let a = low 0 (omega arith) in
      let u : setup_of c ≡ record { edition = 0 } = setup_zero in
      λ i. record { clock = a i; joined = j i; codes = k i; setup = u i; peers = p i; topics = t i }

-- ---- every cell is 0
pub zeros : (cells : List ℕ) (n : ℕ) → cells ≡ replicate n 0 → state_of cells ≡ zero_state
zeros cells n e =
    let a : (j : ℕ) → get_or cells j 0 ≡ 0 = λ j.
    by_order (get_or cells j 0 ≡ 0) j n (λ (l : j < n). rw e (get_or-replicate n j 0 0 l))
    (λ (l : n ≤ j). rw e (get_or-eq_default (replicate n 0) 0 {n = j} (rw length-replicate l))) in
    fresh_form cells (λ x l. a x) (λ x l m. a x)
