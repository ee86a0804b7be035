-- `limits::first_outside` meets its contract. Assumes nothing.
use Rattle.std.proofs.Common.{None}
use Rattle.index.proofs.Kit.{◌≤◌, ◌≡◌, first}
use mathlib.Core.List.{map}
use Rattle.varint.specs.Codes.{number_of}
use Rattle.records.specs.Records.{param_count}
use Rattle.limits.specs.Limits.{outside}
use Rattle.limits.proofs.first_outside.Given as goal

abbrev pub invariant-loop-i : goal.invariant-loop-i
invariant-loop-i l = (l.i ≤ param_count) × (first l.i (outside (map number_of l.codes)) ≡ None)
