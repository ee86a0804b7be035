-- `supplier::put_entries` meets its contract.
-- The loop keeps the lines of the first i entries stored, none longer than 21 bytes.
-- Assumes nothing.
use Rattle.index.proofs.Kit.{◌+◌, ◌*◌, ◌≤◌, ◌≡◌, gather}
use lib.ListN.{length}
use Rattle.records.specs.Records.{param_count}
use Rattle.text.specs.Text.{Stored}
use Rattle.supplier.specs.Output.{entry_text_at}
use Rattle.supplier.proofs.put_entries.Given as goal

abbrev pub invariant-loop-i : goal.invariant-loop-i
invariant-loop-i l =
    (l.i ≤ param_count) × (length l.buf ≡ length l.initial.buf) × (l.next ≤ l.at + 21 * l.i)
    × Stored l.initial.buf l.at (gather l.i (entry_text_at l.s)) l.next l.buf
