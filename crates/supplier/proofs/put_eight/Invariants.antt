-- `supplier::put_eight` meets its contract. The loop keeps the digits of the first k bytes stored, two for each. Assumes nothing.
use Rattle.index.proofs.Kit.{◌+◌, ◌*◌, ◌≤◌, ◌≡◌}
use lib.ListN.{length, take, drop}
use Rattle.text.specs.Text.{Stored}
use Rattle.supplier.specs.Output.{hex_text}
use Rattle.supplier.proofs.put_eight.Given as goal

abbrev pub invariant-loop-k : goal.invariant-loop-k
invariant-loop-k l =
    (l.k ≤ 8) × (length l.buf ≡ length l.initial.buf) × (l.next ≡ l.at + 2 * l.k)
    × Stored l.initial.buf l.at (hex_text (take l.k (drop l.from l.s))) l.next l.buf
