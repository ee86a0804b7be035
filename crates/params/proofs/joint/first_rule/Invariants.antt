-- `params::joint::first_rule` meets its contract. Assumes nothing.
use Rattle.std.proofs.Common.{None}
use Rattle.index.proofs.Kit.{◌≤◌, ◌≡◌, first}
use mathlib.Core.List.{map}
use Rattle.varint.specs.Codes.{number_of}
use Rattle.params.specs.Joint.{rule_count}
use Rattle.params.specs.Check.{broken}
use Rattle.params.proofs.joint.first_rule.Given as goal

abbrev pub invariant-loop-k : goal.invariant-loop-k
invariant-loop-k l =
    (l.k ≤ rule_count) × (first l.k (broken (map number_of l.codes) l.fn.edition) ≡ None)
