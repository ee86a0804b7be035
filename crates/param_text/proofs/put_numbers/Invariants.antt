-- `param_text::put_numbers` meets its contract. The loop's invariant: the first `i` lines are stored, in at most 22 bytes each. Assumes
-- nothing.
use Rattle.index.proofs.Kit.{◌+◌, ◌*◌, ◌≤◌, ◌≡◌, gather}
use lib.ListN.{length}
use Rattle.records.specs.Records.{param_count}
use Rattle.text.specs.Text.{Stored}
use Rattle.param_text.specs.Lines.{line_at}
use Rattle.param_text.proofs.put_numbers.Given as goal

abbrev pub invariant-loop-i : goal.invariant-loop-i
invariant-loop-i l =
    (l.i ≤ param_count) × (length l.buf ≡ length l.initial.buf) × (l.next ≤ l.at + 22 * l.i)
    × Stored l.initial.buf l.at (gather l.i (line_at l.numbers)) l.next l.buf
