-- `params_bytes::put`: after i numbers the buffer holds their bytes from the place on (`Stands`), and the next one has room. Assumes
-- nothing.
use Prim.Native.Nat.{◌≤◌}
use Rattle.records.specs.Records.{param_count}
use Rattle.params_bytes.proofs.WriteLaws.{Stands}
use Rattle.params_bytes.proofs.put.Given as goal

abbrev pub invariant-loop-i : goal.invariant-loop-i
invariant-loop-i l = (l.i ≤ param_count) × Stands l.numbers l.from l.i l.initial.buf l.at l.buf
