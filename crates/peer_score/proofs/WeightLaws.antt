-- Weights multiplied out: their bounds, and that a share outside the mesh is three products of them.
-- Assumes nothing.
use Prim.Native.Nat.{ℕ, ◌+◌, ◌*◌, ◌≤◌, ◌<◌}
use native.Mathlib.Nat.{mul-le-mul, mul_assoc, mul-add, mul-zero, zero-add}
use mathlib.Core.Path.{◌≡◌, sym, ap, ap₂, ◌∙◌}
use mathlib.Core.Bool.{false}
use mathlib.Core.List.{List}
use lib.Dec.{eqb, lit<}
use lib.ListN.{get_or}
use borrow.Author.Tests.{ne_eqb}
use Rattle.limits.specs.Limits.{place as topicPlace}
use Rattle.records.specs.declared.TopicRecord.{TopicRecord}
use Rattle.records.specs.Records.{State, topic_count, place, topic_in}
use Rattle.records.specs.Parameters.{weight_at, w2_at, w3b_at, w4_at}
use Rattle.layout.specs.View.{state_of}
use Rattle.score.specs.declared.TopicParams.{TopicParams}
use Rattle.score.specs.declared.Balance.{Balance}
use Rattle.score.specs.Parts.{part1_of, part2_of, part3_of, part3b_of, part4_of}
use Rattle.score.specs.Sums.{share_of}
use Rattle.score.specs.Score.{magnitude_in, topic_params_in, share_at}
use Rattle.score.proofs.InputLaws.{SlotIn, params_in}
use Rattle.peer_score.specs.Standing.{Standing}
use Rattle.peer_score.specs.declared.weights.TopicWeights.{TopicWeights}
use Rattle.peer_score.specs.Weights.{Weights, outside_of, Weighing, OutsideIn}

-- ---- what is multiplied out

module _ (table : List ℕ) (h : Standing table) where
  abbrev st : State
  st = state_of table

  pub weight_most : (t : ℕ) → t < topic_count → magnitude_in (state_of table) (topicPlace t weight_at) ≤ 1000
  unfolding topic_params_in
  weight_most t l = (params_in st h.router t l).weight

  pub weighing_p2 : Weighing table w2_at
  unfolding topic_params_in
  weighing_p2 = record { standing = h; param = lit< tt; most = λ t l. (params_in st h.router t l).w2 }

  pub weighing_p3b : Weighing table w3b_at
  unfolding topic_params_in
  weighing_p3b = record { standing = h; param = lit< tt; most = λ t l. (params_in st h.router t l).w3b }

  pub weighing_p4 : Weighing table w4_at
  unfolding topic_params_in
  weighing_p4 = record { standing = h; param = lit< tt; most = λ t l. (params_in st h.router t l).w4 }

-- ---- a share outside the mesh

first_none : (w a b : ℕ) → a ≡ 0 → w * b ≡ w * (a + b)
first_none w a b e = rw e (ap (λ (n : ℕ). w * n) (sym (zero-add b)))

module _ (t : TopicParams) (r : TopicRecord) (m : eqb r.member 1 ≡ false) where
  no_p1 : part1_of t r ≡ 0
  unfolding part1_of
  no_p1 = rw m

  no_p3 : part3_of t r ≡ 0
  unfolding part3_of
  no_p3 = rw m

  gain_is : t.weight * t.w2 * part2_of r ≡ t.weight * (t.w1 * part1_of t r + t.w2 * part2_of r)
  gain_is =
      mul_assoc t.weight t.w2 (part2_of r)
      ∙ first_none t.weight (t.w1 * part1_of t r) (t.w2 * part2_of r) (ap (λ (n : ℕ). t.w1 * n) no_p1 ∙ mul-zero t.w1)

  loss_is :
      t.weight * t.w3b * part3b_of r + t.weight * t.w4 * part4_of r
      ≡ t.weight * (t.w3 * part3_of t r + t.w3b * part3b_of r + t.w4 * part4_of r)
  loss_is =
      ap₂ (λ (a b : ℕ). a + b) (mul_assoc t.weight t.w3b (part3b_of r)) (mul_assoc t.weight t.w4 (part4_of r))
      ∙ sym (mul-add t.weight (t.w3b * part3b_of r) (t.w4 * part4_of r))
      ∙ ap (λ (n : ℕ). t.weight * (n + t.w4 * part4_of r))
      (sym (ap (λ (n : ℕ). n + t.w3b * part3b_of r) (ap (λ (n : ℕ). t.w3 * n) no_p3 ∙ mul-zero t.w3) ∙ zero-add (t.w3b * part3b_of r)))

  outside_share : outside_of (t.weight * t.w2) (t.weight * t.w3b) (t.weight * t.w4) r ≡ share_of t r
  unfolding share_of
  outside_share = ap₂ (λ (g l : ℕ). record { gain = g; loss = l }) gain_is loss_is

module _ (st : State) (s t : ℕ) (k : SlotIn st s) (l : t < topic_count) (v : TopicWeights) (w : Weights st v)
    (r : TopicRecord) (e : r ≡ topic_in st (place s t)) where
  is2 : get_or v.w2 t 0 ≡ (topic_params_in st t).weight * (topic_params_in st t).w2
  unfolding topic_params_in
  is2 = w.p2 t l

  is3b : get_or v.w3b t 0 ≡ (topic_params_in st t).weight * (topic_params_in st t).w3b
  unfolding topic_params_in
  is3b = w.p3b t l

  is4 : get_or v.w4 t 0 ≡ (topic_params_in st t).weight * (topic_params_in st t).w4
  unfolding topic_params_in
  is4 = w.p4 t l

  pub outside_ready : OutsideIn (get_or v.w2 t 0) (get_or v.w3b t 0) (get_or v.w4 t 0) r
  outside_ready =
      let i = k.params t l in
      record {
        p2 = rw is2 (mul-le-mul i.weight i.w2);
        p3b = rw is3b (mul-le-mul i.weight i.w3b);
        p4 = rw is4 (mul-le-mul i.weight i.w4);
        counters = rw e (k.counters t l);
      }

  pub outside_is :
      (b : Balance) →
      (r.member ≡ 1 → ⊥) →
      b ≡ outside_of (get_or v.w2 t 0) (get_or v.w3b t 0) (get_or v.w4 t 0) r →
      b ≡ share_at st s t
  unfolding share_at
  outside_is b n q =
      q
      ∙ rw (is2, is3b, is4) (outside_share (topic_params_in st t) r (ne_eqb r.member 1 n))
      ∙ ap (share_of (topic_params_in st t)) e
