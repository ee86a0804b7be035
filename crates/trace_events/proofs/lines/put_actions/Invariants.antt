-- `trace_events::lines::put_actions` meets its contract. The loop's invariant: the first `i` lines are stored, in at most 44 bytes each.
-- Assumes nothing.
use Prim.Native.Nat.{◌+◌, ◌*◌, ◌≤◌}
use mathlib.Core.Path.{◌≡◌}
use lib.ListN.{length}
use Rattle.text.specs.Text.{Stored}
use Rattle.trace_events.specs.Lines.{actions_text}
use Rattle.trace_events.proofs.lines.put_actions.Given as goal

abbrev pub invariant-loop-i : goal.invariant-loop-i
invariant-loop-i l =
    (l.i ≤ l.n)
    × (length l.out ≡ length l.initial.out)
    × (l.k ≤ l.at + 44 * l.i)
    × Stored l.initial.out l.at (actions_text l.i l.actions) l.k l.out
