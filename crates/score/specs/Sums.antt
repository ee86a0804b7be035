-- The same sums as what is gained and what is lost, in unsigned numbers: what the code computes. proofs/SumLaws.antt shows that each is
-- worth what Formula.antt says.
use Rattle.std.specs.Prelude.{ℕ, zero, suc, ◌+◌, ◌-◌, ◌*◌, ◌/◌, ◌%◌, min, Bool, cond, eqb, ltb, ℤ}
use Rattle.std.proofs.Math.IntN.{sub_ℕ}
use Rattle.records.specs.declared.TopicRecord.{TopicRecord}
use Rattle.score.specs.declared.TopicParams.{TopicParams}
use Rattle.score.specs.declared.ScoreParams.{ScoreParams}
use Rattle.score.specs.declared.Sharers.{Sharers}
use Rattle.score.specs.declared.Balance.{Balance}
use Rattle.score.specs.declared.Parts.{Parts}
use Rattle.score.specs.declared.Why.{Why}
use Rattle.score.specs.Ranges.{score_most}
use Rattle.score.specs.Parts.{square, part1_of, part2_of, part3_of, part3b_of, part4_of, crowd_of}

-- a balance as a signed number
abbrev pub worth : Balance → ℤ
worth b = sub_ℕ b.gain b.loss

-- one topic's share
unfoldable pub share_of : TopicParams → TopicRecord → Balance
share_of t r =
    record {
      gain = t.weight * (t.w1 * part1_of t r + t.w2 * part2_of r);
      loss = t.weight * (t.w3 * part3_of t r + t.w3b * part3b_of r + t.w4 * part4_of r);
    }

abbrev pub no_balance : Balance
no_balance = record { gain = 0; loss = 0 }

abbrev pub add_of : Balance → Balance → Balance
add_of a b = record { gain = a.gain + b.gain; loss = a.loss + b.loss }

-- the balances that f gives of the topics below n, added
unfoldable pub sum_of : ℕ → (ℕ → Balance) → Balance
sum_of zero f = no_balance
sum_of (suc n) f = add_of (sum_of n f) (f n)

-- a gain of at most the cap above the loss; a cap of 0 is none
unfoldable pub capped_of : ℕ → Balance → Balance
capped_of cap b =
    record { gain = cond (eqb cap 0) b.gain (min b.gain (cap * 1000000 + b.loss)); loss = b.loss }

-- Application-specific score: P5 as its code, 2n or -2n - 1, of which (code + 1) / 2 is the magnitude
unfoldable pub p5_of : ℕ → ℕ → Balance
p5_of w5 code =
    let n : ℕ = w5 * ((code + 1) / 2 * 1000) in
    cond (eqb (code % 2) 1) (record { gain = 0; loss = n }) (record { gain = n; loss = 0 })

-- what IP colocation (P6) and the behaviour penalty (P7) take away
abbrev pub p6_of : ℕ → ℕ → Sharers → ℕ
p6_of w6 threshold sharers = w6 * crowd_of threshold sharers * 1000000000

abbrev pub p7_of : ℕ → ℕ → ℕ
p7_of w7 p7 = w7 * square p7 * 1000

unfoldable pub parts_of : ScoreParams → Balance → ℕ → Sharers → ℕ → Parts
parts_of g topics code sharers p7 =
    record {
      topics = topics;
      capped = capped_of g.cap topics;
      p5 = p5_of g.w5 code;
      p6 = p6_of g.w6 g.threshold sharers;
      p7 = p7_of g.w7 p7;
    }

unfoldable pub total_of : Parts → Balance
total_of p =
    record { gain = p.capped.gain + p.p5.gain; loss = p.capped.loss + p.p5.loss + p.p6 + p.p7 }

-- the parts and the score as the host gets them
unfoldable pub told_of : Parts → Why
told_of p =
    record {
      topics = worth p.topics;
      capped = worth p.capped;
      p5 = worth p.p5;
      p6 = sub_ℕ 0 p.p6;
      p7 = sub_ℕ 0 p.p7;
      score = worth (total_of p);
    }

-- a score moved up so that none is negative: an unsigned number in the same order
abbrev pub offset_of : Balance → ℕ
offset_of b = score_most + b.gain - b.loss

-- "score negative", and "scoring below graylist", a threshold of -n thousandths of a point
abbrev pub negative_of : Balance → Bool
negative_of b = ltb b.gain b.loss

abbrev pub below_of : Balance → ℕ → Bool
below_of b n = ltb (b.gain + n * 1000000) b.loss
