-- `params_bytes::parse`: after i numbers they are the first i of the array, and the rest of the bytes completes them (`After`). Assumes
-- nothing.
use Prim.Native.Nat.{◌≤◌}
use mathlib.Core.Path.{◌≡◌}
use lib.ListN.{length}
use Rattle.records.specs.Records.{param_count}
use Rattle.params_bytes.proofs.ReadLaws.{After}
use Rattle.params_bytes.proofs.parse.Given as goal

abbrev pub invariant-loop-i : goal.invariant-loop-i
invariant-loop-i l = (l.i ≤ param_count) × ((length l.numbers ≡ param_count) × After param_count l.s l.from l.i l.numbers l.at)
