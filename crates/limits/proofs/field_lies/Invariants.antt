-- `limits::field_lies`: after k turns the topics below k are right. Assumes nothing.
use Rattle.index.proofs.Kit.{◌≤◌, ◌≡◌, every, true}
use lib.ListN.{get_or}
use Rattle.varint.specs.Codes.{number_of}
use Rattle.records.specs.Records.{topic_count}
use Rattle.limits.specs.Limits.{place, to, lies}
use Rattle.limits.proofs.field_lies.Given as goal

abbrev pub invariant-loop-k : goal.invariant-loop-k
invariant-loop-k l =
    (l.k ≤ topic_count) × (every l.k (λ m. lies (number_of (get_or l.codes (place m l.j) 0)) (to l.low l.high)) ≡ true)
