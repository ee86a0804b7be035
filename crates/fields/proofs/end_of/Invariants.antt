-- `fields::end_of` meets its contract: the bytes that are passed have their top bit set, and lie in s. Assumes nothing.
use Rattle.index.proofs.Kit.{◌+◌, ◌-◌, ◌≤◌}
use lib.ListN.{length}
use Rattle.fields.specs.Numbers.{most_bytes}
use Rattle.fields.proofs.NumberLaws.{Scanning}
use Rattle.fields.proofs.end_of.Given as goal

abbrev pub invariant-loop-i : goal.invariant-loop-i
invariant-loop-i l =
    record { scanning : Scanning l.s l.at (l.at + l.i) (most_bytes - l.i); inside : l.at + l.i ≤ length l.s + (l.at - length l.s) }
