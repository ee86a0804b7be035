-- `limits::fields_lie`: after j turns the topics' first j numbers are between their limits. Assumes nothing.
use Rattle.index.proofs.Kit.{◌≤◌, ◌≡◌, every, true}
use mathlib.Core.List.{map}
use Rattle.varint.specs.Codes.{number_of}
use Rattle.limits.specs.Limits.{of_topic, in_limits}
use Rattle.limits.proofs.RowLaws.{field}
use Rattle.limits.proofs.fields_lie.Given as goal

abbrev pub invariant-loop-j : goal.invariant-loop-j
invariant-loop-j l = (l.j ≤ of_topic) × (every l.j (field (in_limits (map number_of l.codes))) ≡ true)
