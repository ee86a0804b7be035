-- One topic's share as gain and loss is worth 01's formula (Formula.antt), and so is the total of the topics.
-- Assumes nothing.
use Prim.Native.Nat.{ℕ, zero, suc, ◌+◌, ◌*◌, ◌<◌, ◌≤◌}
use native.Mathlib.Numerals.{add-one}
use mathlib.Core.Path.{◌≡◌, refl, ap₂, ◌∙◌}
use native.Mathlib.Omega.{arith}
use native.Mathlib.Nat.{le_antisymm}
use lib.IntN.{ℤ, pos, neg_ℤ, sub_ℕ, ◌+ℤ◌}
use Rattle.records.specs.declared.TopicRecord.{TopicRecord}
use Rattle.score.specs.declared.TopicParams.{TopicParams}
use Rattle.score.specs.declared.Balance.{Balance}
use Rattle.score.specs.Parts.{part1_of, part2_of, part3_of, part3b_of, part4_of}
use Rattle.score.specs.Formula.{topic_sum, all_topics}
use Rattle.score.specs.Sums.{worth, share_of, no_balance, add_of, sum_of}
use Rattle.score.proofs.Differences.{diff_pos, diff_add, diff_scale, neg_times}
use Rattle.score.proofs.PartLaws.{part1_other, part3_other}

-- the formula at signed weights of these sizes, the last three negative
pub share_is :
    (t : TopicParams) (r : TopicRecord) →
    topic_sum
    (pos t.weight)
    (pos t.w1)
    (pos t.w2)
    (neg_ℤ (pos t.w3))
    (neg_ℤ (pos t.w3b))
    (neg_ℤ (pos t.w4))
    (part1_of t r)
    (part2_of r)
    (part3_of t r)
    (part3b_of r)
    (part4_of r)
    ≡ worth (share_of t r)
unfolding topic_sum share_of
share_is t r =
    rw (
      neg_times t.w3 (part3_of t r),
      neg_times t.w3b (part3b_of r),
      neg_times t.w4 (part4_of r),
      diff_pos (t.w1 * part1_of t r + t.w2 * part2_of r),
      diff_add,
      diff_add,
      diff_add,
      diff_scale,
    )
    (ap₂ (λ (g l : ℕ). sub_ℕ (t.weight * g) (t.weight * l)) (omega arith) (omega arith))

-- outside the mesh P1 and P3 are 0, and are left out
pub share_other :
    (t : TopicParams) (r : TopicRecord) (a b c d g l : ℕ) →
    (r.member ≡ 1 → ⊥) →
    a ≡ t.w2 * part2_of r →
    b ≡ t.w3b * part3b_of r →
    c ≡ part4_of r →
    d ≡ t.w4 * c →
    g ≡ t.weight * a →
    l ≡ t.weight * (b + d) →
    ◌≡◌ {A = Balance} (record { gain = g; loss = l }) (share_of t r)
unfolding share_of
share_other t r a b c d g l n ea eb ec ed eg el =
    rw (← part1_other t r n, ← part3_other t r n, eg, el, ed, ec, ea, eb)
    (ap₂ (λ (x y : ℕ). record { gain = t.weight * x; loss = t.weight * y }) (omega arith) (omega arith))

pub add_is : (a b : Balance) → worth a +ℤ worth b ≡ worth (add_of a b)
add_is a b = diff_add a.gain a.loss b.gain b.loss

-- a sum is worth the sum of what its terms are worth
pub sum_is :
    (f : ℕ → ℤ) (g : ℕ → Balance) (n : ℕ) →
    ((k : ℕ) → k < n → f k ≡ worth (g k)) →
    all_topics n f ≡ worth (sum_of n g)
unfolding all_topics sum_of
sum_is f g zero h = refl
sum_is f g (suc n) h =
    ap₂ (λ (a b : ℤ). a +ℤ b) (sum_is f g n (λ k l. h k (omega arith))) (h n (omega arith))
    ∙ add_is (sum_of n g) (g n)

-- a loop adds one topic after the other
pub sum_none : (g : ℕ → Balance) → no_balance ≡ sum_of 0 g
unfolding sum_of
sum_none g = refl

pub sum_more : (g : ℕ → Balance) (n : ℕ) (a b : Balance) → a ≡ sum_of n g → b ≡ g n → add_of a b ≡ sum_of (n + 1) g
unfolding sum_of
sum_more g n a b p q = rw (add-one n, p, q)

pub sum_done : (g : ℕ → Balance) (n i : ℕ) (b : Balance) → i ≤ n → n ≤ i → b ≡ sum_of i g → b ≡ sum_of n g
sum_done g n i b l h p = rw (le_antisymm h l) p

-- what agrees at every topic has the same sum
pub topics_same : (f g : ℕ → ℤ) (n : ℕ) → ((k : ℕ) → k < n → f k ≡ g k) → all_topics n f ≡ all_topics n g
unfolding all_topics
topics_same f g zero h = refl
topics_same f g (suc n) h = rw (topics_same f g n (λ k l. h k (omega arith)), h n (omega arith))
