-- The parts of a topic's share, in millionths (01, "Per topic, in millionths"). A change of a rule of P1 to P4 is made here.
use Rattle.std.specs.Prelude.{ℕ, ◌+◌, ◌-◌, ◌*◌, ◌/◌, min, Bool, ◌&&◌, cond, eqb, ltb}
use Rattle.records.specs.declared.TopicRecord.{TopicRecord}
use Rattle.score.specs.declared.TopicParams.{TopicParams}
use Rattle.score.specs.declared.Sharers.{Sharers}

-- a member of our mesh
abbrev pub is_member : TopicRecord → Bool
is_member r = eqb r.member 1

abbrev pub square : ℕ → ℕ
square n = n * n

-- Time in mesh: "P1 = floor(mesh time / quantum), at most its cap, times 1,000,000, and 0 for a non-member"
unfoldable pub part1_of : TopicParams → TopicRecord → ℕ
part1_of t r = cond (is_member r) (min (r.mesh / t.quantum) t.cap1 * 1000000) 0

-- First message deliveries: "P2 = counter × 1000"
abbrev pub part2_of : TopicRecord → ℕ
part2_of r = r.p2 * 1000

-- Mesh message delivery deficit: "P3 = (threshold - counter)² for a member with mesh time > activation and counter < threshold, else 0"
unfoldable pub part3_of : TopicParams → TopicRecord → ℕ
part3_of t r =
    cond
    (is_member r && (ltb t.activation r.mesh && ltb r.p3 t.threshold))
    (square (t.threshold - r.p3))
    0

-- Mesh failure penalty: "P3b its counter"
abbrev pub part3b_of : TopicRecord → ℕ
part3b_of r = r.p3b

-- Invalid messages: "P4 the counter squared"
abbrev pub part4_of : TopicRecord → ℕ
part4_of r = square r.p4

-- IP colocation (P6): "the surplus being how many connected peers share its group, itself counted, above the P6 threshold, or 0"
abbrev pub surplus_of : ℕ → ℕ → ℕ
surplus_of threshold sharing = sharing - threshold

-- 02, order 11: "P6 sums, over the peer's groups, the squared surplus"; where it holds none, nobody is counted
unfoldable pub crowd_of : ℕ → Sharers → ℕ
crowd_of threshold n =
    square (surplus_of threshold n.first)
    + square (surplus_of threshold n.second)
    + square (surplus_of threshold n.third)
    + square (surplus_of threshold n.fourth)
