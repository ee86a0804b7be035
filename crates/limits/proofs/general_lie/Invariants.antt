-- `limits::general_lie`: after i turns the first i numbers are between their limits. Assumes nothing.
use Rattle.index.proofs.Kit.{◌≤◌, ◌≡◌, every, true}
use mathlib.Core.List.{map}
use Rattle.varint.specs.Codes.{number_of}
use Rattle.limits.specs.Limits.{general_count, in_limits}
use Rattle.limits.proofs.general_lie.Given as goal

abbrev pub invariant-loop-i : goal.invariant-loop-i
invariant-loop-i l = (l.i ≤ general_count) × (every l.i (in_limits (map number_of l.codes)) ≡ true)
