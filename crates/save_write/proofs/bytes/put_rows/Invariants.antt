-- `save_write::bytes::put_rows`: after k keys the bytes of their rows stand in the buffer. Assumes nothing.
use Prim.Native.Nat.{◌≤◌}
use mathlib.Core.Path.{◌≡◌}
use lib.ListN.{length, take}
use Rattle.layout.specs.View.{state_of}
use Rattle.saves.specs.Save.{bytes_of}
use Rattle.save_write.specs.Stands.{rows_of, Stands}
use Rattle.save_write.proofs.bytes.put_rows.Given as goal

abbrev pub invariant-loop-key : goal.invariant-loop-key
invariant-loop-key l =
    (l.key-index ≤ length l.keys)
    × ((length l.row ≡ 44)
    × ((length l.buf ≡ length l.initial.buf)
    × Stands (bytes_of (rows_of (state_of l.table) l.time (take l.key-index l.keys))) l.at l.initial.buf l.place l.buf))
