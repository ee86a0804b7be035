-- `params::joint::caps` meets its contract. Assumes nothing.
use Rattle.index.proofs.Kit.{◌≤◌, ◌≡◌, every, true}
use mathlib.Core.List.{map}
use Rattle.varint.specs.Codes.{number_of}
use Rattle.records.specs.Records.{topic_count}
use Rattle.params.specs.Joint.{cap_rule}
use Rattle.params.proofs.joint.caps.Given as goal

abbrev pub invariant-loop-k : goal.invariant-loop-k
invariant-loop-k l = (l.k ≤ topic_count) × (every l.k (cap_rule (map number_of l.codes)) ≡ true)
