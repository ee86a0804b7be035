-- The score as 01 writes it, over signed numbers. The weights and P5 are given with their sign, the parts are those of Parts.antt.
use Rattle.std.specs.Prelude.{ℕ, zero, suc, ◌*◌, cond, eqb, ℤ, pos, ◌+ℤ◌, ◌*ℤ◌}
use Rattle.std.specs.Int.Signed.{le_z}
use Rattle.score.specs.declared.Why.{Why}
use Rattle.score.specs.Parts.{square}

-- "The topic's sum is weight × (w1·P1 + w2·P2 + w3·P3 + w3b·P3b + w4·P4)."
unfoldable pub topic_sum : ℤ → ℤ → ℤ → ℤ → ℤ → ℤ → ℕ → ℕ → ℕ → ℕ → ℕ → ℤ
topic_sum weight w1 w2 w3 w3b w4 p1 p2 p3 p3b p4 =
    weight *ℤ (w1 *ℤ pos p1 +ℤ w2 *ℤ pos p2 +ℤ w3 *ℤ pos p3 +ℤ w3b *ℤ pos p3b +ℤ w4 *ℤ pos p4)

-- "All eight are added": the sums that f gives of the topics below n
unfoldable pub all_topics : ℕ → (ℕ → ℤ) → ℤ
all_topics zero f = pos 0
all_topics (suc n) f = all_topics n f +ℤ f n

abbrev pub min_z : ℤ → ℤ → ℤ
min_z a b = cond (le_z a b) a b

-- "a non-zero topic cap × 1,000,000 bounds that total from above only"
unfoldable pub bounded : ℕ → ℤ → ℤ
bounded cap total = cond (eqb cap 0) total (min_z total (pos (cap * 1000000)))

-- Application-specific score, IP colocation, behaviour penalty: "Then add w5 × P5 × 1000; w6 × surplus² × 10^9 ..; and w7 × P7 counter² ×
-- 1000." (01), the surplus² being the sum of those of its groups (02, order 11); "the topic total before its cap, the total after it, and
-- the three general parts, the last four's sum being the score" (02, order 5)
unfoldable pub why_of : ℕ → ℤ → ℤ → ℤ → ℤ → ℕ → ℤ → ℕ → Why
why_of cap topics w5 p5 w6 crowd w7 p7 =
    let capped : ℤ = bounded cap topics in
    let five : ℤ = w5 *ℤ p5 *ℤ pos 1000 in
    let six : ℤ = w6 *ℤ pos crowd *ℤ pos 1000000000 in
    let seven : ℤ = w7 *ℤ pos (square p7) *ℤ pos 1000 in
    record {
      topics = topics;
      capped = capped;
      p5 = five;
      p6 = six;
      p7 = seven;
      score = capped +ℤ five +ℤ six +ℤ seven;
    }
