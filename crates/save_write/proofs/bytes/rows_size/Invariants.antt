-- `save_write::bytes::rows_size`: after k keys, the sum of their rows' sizes. Assumes nothing.
use Prim.Native.Nat.{◌*◌, ◌≤◌}
use mathlib.Core.Path.{◌≡◌}
use lib.ListN.{length, take}
use Rattle.layout.specs.View.{state_of}
use Rattle.saves.specs.Save.{bytes_of}
use Rattle.save_write.specs.Stands.{rows_of}
use Rattle.save_write.proofs.bytes.rows_size.Given as goal

abbrev pub invariant-loop-key : goal.invariant-loop-key
invariant-loop-key l =
    (l.key-index ≤ length l.keys)
    × ((length l.row ≡ 44) × ((l.sum ≡ length (bytes_of (rows_of (state_of l.table) l.time (take l.key-index l.keys)))) × (l.sum ≤ 440 * l.key-index)))
