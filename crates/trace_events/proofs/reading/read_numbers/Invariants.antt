-- `trace_events::reading::read_numbers` meets its contract: the loop's invariant is `After`: the first `i` numbers are read, `place` is
-- past them, and the values from `i` on stay. Assumes nothing.
use Prim.Native.Nat.{ℕ, ◌≤◌}
use mathlib.Core.Path.{◌≡◌}
use lib.ListN.{length, get_or}
use Rattle.trace_events.proofs.ReadingLaws.{After}
use Rattle.trace_events.proofs.reading.read_numbers.Given as goal

abbrev pub invariant-loop-i : goal.invariant-loop-i
invariant-loop-i l =
    (l.i ≤ l.n)
    × ((l.n ≤ length l.values)
    × ((length l.values ≡ length l.initial.values)
    × (After l.n l.s l.at l.i l.values l.place × ((k : ℕ) → l.i ≤ k → get_or l.values k 0 ≡ get_or l.initial.values k 0))))
