-- How large the parts and sums of a score can be, for parameters and records in their ranges.
-- Assumes nothing.
use Prim.Native.Nat.{ℕ, zero, suc, ◌+◌, ◌-◌, ◌*◌, ◌/◌, ◌%◌, ◌<◌, ◌≤◌, zero-le, min}
use mathlib.Core.Path.{◌≡◌, refl}
use mathlib.Core.Bool.{◌&&◌}
use native.Mathlib.Omega.{arith}
use native.Mathlib.Nat.{mul-le-mul}
use lib.Dec.{eqb, ltb}
use Rattle.index.proofs.Flags.{cond_case}
use Rattle.records.specs.declared.TopicRecord.{TopicRecord}
use Rattle.score.specs.declared.TopicParams.{TopicParams}
use Rattle.score.specs.declared.ScoreParams.{ScoreParams}
use Rattle.score.specs.declared.Sharers.{Sharers}
use Rattle.score.specs.declared.Balance.{Balance}
use Rattle.score.specs.declared.Parts.{Parts}
use Rattle.score.specs.Ranges.{TopicParamsIn, ScoreParamsIn, CountersIn, ShareIn, TopicsIn, PartsIn, BalanceIn, SharersIn, crowd_most}
use Rattle.score.specs.Parts.{is_member, square, part1_of, part3_of, surplus_of, crowd_of}
use Rattle.score.specs.Sums.{share_of, sum_of, capped_of, p5_of, parts_of, total_of}
use Rattle.records.specs.Records.{slot_count}

module _ (t : TopicParams) (h : TopicParamsIn t) (r : TopicRecord) where
  pub part1_most : part1_of t r ≤ 1000000000
  unfolding part1_of
  part1_most =
      cond_case
      (λ (n : ℕ). n ≤ 1000000000)
      (is_member r)
      (min (r.mesh / t.quantum) t.cap1 * 1000000)
      0
      (λ _. omega arith)
      (λ _. zero-le)

  pub part3_most : part3_of t r ≤ 1000000000000
  unfolding part3_of
  part3_most =
      let l : t.threshold - r.p3 ≤ 1000000 = omega arith in
      cond_case
      (λ (n : ℕ). n ≤ 1000000000000)
      (is_member r && (ltb t.activation r.mesh && ltb r.p3 t.threshold))
      (square (t.threshold - r.p3))
      0
      (λ _. mul-le-mul l l)
      (λ _. zero-le)

  pub share_in : CountersIn r → ShareIn (share_of t r)
  unfolding share_of
  share_in k =
      let p2 : r.p2 * 1000 ≤ 1000000000 = omega arith in
      record {
        gain =
            let a = mul-le-mul h.w1 part1_most in
            let b = mul-le-mul h.w2 p2 in
            let s : t.w1 * part1_of t r + t.w2 * (r.p2 * 1000) ≤ 300000000000000 = omega arith in
            mul-le-mul h.weight s;
        loss =
            let a = mul-le-mul h.w3 part3_most in
            let b = mul-le-mul h.w3b k.p3b in
            let c = mul-le-mul h.w4 (mul-le-mul k.p4 k.p4) in
            let s : t.w3 * part3_of t r + t.w3b * r.p3b + t.w4 * square r.p4 ≤ 300000000000000 = omega arith in
            mul-le-mul h.weight s;
      }

-- n shares
pub record SumIn (n : ℕ) (b : Balance) : Type 0 where
  pub gain : b.gain ≤ 300000000000000000 * n
  pub loss : b.loss ≤ 300000000000000000 * n

pub sum_in : (f : ℕ → Balance) (n : ℕ) → ((k : ℕ) → k < n → ShareIn (f k)) → SumIn n (sum_of n f)
unfolding sum_of
sum_in f zero h = record { gain = zero-le; loss = zero-le }
sum_in f (suc n) h =
    let i = sum_in f n (λ k l. h k (omega arith)) in
    let j = h n (omega arith) in
    record { gain = omega arith; loss = omega arith }

pub topics_in : (f : ℕ → Balance) → ((k : ℕ) → k < 8 → ShareIn (f k)) → TopicsIn (sum_of 8 f)
topics_in f h = let s = sum_in f 8 h in record { gain = s.gain; loss = s.loss }

pub capped_in : (cap : ℕ) (b : Balance) → TopicsIn b → TopicsIn (capped_of cap b)
unfolding capped_of
capped_in cap b h =
    record {
      gain =
          cond_case
          (λ (n : ℕ). n ≤ 2400000000000000000)
          (eqb cap 0)
          b.gain
          (min b.gain (cap * 1000000 + b.loss))
          (λ _. h.gain)
          (λ _. omega arith);
      loss = h.loss;
    }

Small5 : Balance → Type 0
Small5 b = (b.gain ≤ 100000000000000) × (b.loss ≤ 100000000000000)

p5_in : (w code : ℕ) → w ≤ 100 → code ≤ 2000000000 → Small5 (p5_of w code)
unfolding Small5 p5_of
p5_in w code h k =
    let m : (code + 1) / 2 * 1000 ≤ 1000000000000 = omega arith in
    let n = mul-le-mul h m in
    cond_case
    Small5
    (eqb (code % 2) 1)
    (record { gain = 0; loss = w * ((code + 1) / 2 * 1000) })
    (record { gain = w * ((code + 1) / 2 * 1000); loss = 0 })
    (λ _. (zero-le, n))
    (λ _. (n, zero-le))

-- one group's squared surplus, and four of them
pub surplus_most : (threshold sharing : ℕ) → 1 ≤ threshold → sharing ≤ slot_count → square (surplus_of threshold sharing) ≤ 65025
surplus_most threshold sharing h s = let over : surplus_of threshold sharing ≤ slot_count - 1 = omega arith in mul-le-mul over over

pub squared_is :
    (n threshold sharing : ℕ) →
    n ≡ sharing - threshold →
    1 ≤ threshold →
    sharing ≤ slot_count →
    (n * n ≡ square (surplus_of threshold sharing)) × (n * n ≤ 65025)
squared_is n threshold sharing e h s = rw e (refl, surplus_most threshold sharing h s)

pub crowd_most_lem : (threshold : ℕ) (n : Sharers) → 1 ≤ threshold → SharersIn n → crowd_of threshold n ≤ crowd_most
unfolding crowd_of
crowd_most_lem threshold n h s =
    omega (
      arith,
      surplus_most threshold n.first h s.first,
      surplus_most threshold n.second h s.second,
      surplus_most threshold n.third h s.third,
      surplus_most threshold n.fourth h s.fourth,
    )

module _ (g : ScoreParams) (b : Balance) (code : ℕ) (sharers : Sharers) (p7 : ℕ) where
  pub parts_in :
      ScoreParamsIn g →
      TopicsIn b →
      code ≤ 2000000000 →
      SharersIn sharers →
      p7 ≤ 1000000 →
      PartsIn (parts_of g b code sharers p7)
  unfolding parts_of Small5
  parts_in h i c s p =
      let five = p5_in g.w5 code h.w5 c in
      let six = mul-le-mul h.w6 (crowd_most_lem g.threshold sharers h.threshold s) in
      let seven = mul-le-mul h.w7 (mul-le-mul p p) in
      record {
        topics = i;
        capped = capped_in g.cap b i;
        gain5 = five.0;
        loss5 = five.1;
        p6 = omega (arith, six);
        p7 = omega (arith, seven);
      }

pub total_in : (p : Parts) → PartsIn p → BalanceIn (total_of p)
unfolding total_of
total_in p h =
    let t = h.capped in
    record { gain = omega (arith, t.gain); loss = omega (arith, t.loss) }
