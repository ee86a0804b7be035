-- `save_write::bytes::put_row`: after i numbers their bytes stand in the buffer (`Stands`), and the next one has room. Assumes nothing.
use Prim.Native.Nat.{◌≤◌}
use mathlib.Core.Path.{◌≡◌}
use lib.ListN.{length, take}
use Rattle.saves.specs.Save.{bytes_of}
use Rattle.save_write.specs.Stands.{Stands}
use Rattle.save_write.proofs.bytes.put_row.Given as goal

abbrev pub invariant-loop-n : goal.invariant-loop-n
invariant-loop-n l = (l.n-index ≤ length l.row)
    × ((length l.buf ≡ length l.initial.buf) × Stands (bytes_of (take l.n-index l.row)) l.at l.initial.buf l.place l.buf)
