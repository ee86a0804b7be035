-- `trace_events::reading::cut_short` meets its contract. Assumes nothing.
use Prim.Native.Nat.{◌≤◌, ◌<◌, ◌-◌}
use mathlib.Core.Path.{◌≡◌}
use mathlib.Core.Bool.{true}
use lib.ListN.{length}
use Rattle.index.specs.Index.{every}
use Rattle.trace_events.proofs.ReadingLaws.{tail}
use Rattle.trace_events.proofs.reading.cut_short.Given as goal

abbrev pub invariant-loop-k : goal.invariant-loop-k
invariant-loop-k l = (l.k ≤ l.n) × ((l.n ≡ length l.s - l.at) × ((l.n < 10) × ((l.at < length l.s) × (every l.k (tail l.s l.at) ≡ true))))
