-- `save_write::bytes::row_size`: after i numbers, the sum of their sizes. Assumes nothing.
use Prim.Native.Nat.{◌*◌, ◌≤◌}
use mathlib.Core.Path.{◌≡◌}
use lib.ListN.{length, take}
use Rattle.saves.specs.Save.{bytes_of}
use Rattle.save_write.proofs.bytes.row_size.Given as goal

abbrev pub invariant-loop-n : goal.invariant-loop-n
invariant-loop-n l = (l.n-index ≤ length l.row) × ((l.sum ≡ length (bytes_of (take l.n-index l.row))) × (l.sum ≤ 10 * l.n-index))
