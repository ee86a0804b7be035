-- `trace_events::reading::widen`: behind the order stand the slots up to `k` (`Widened`). Assumes nothing.
use Prim.Native.Nat.{◌≤◌}
use mathlib.Core.Path.{◌≡◌}
use lib.ListN.{length}
use Rattle.records.specs.Records.{slot_count}
use Rattle.trace_events.proofs.ReadingLaws.{Widened}
use Rattle.trace_events.proofs.reading.widen.Given as goal

abbrev pub invariant-loop-k : goal.invariant-loop-k
invariant-loop-k l = (l.n ≤ l.k) × ((l.k ≤ slot_count) × ((length l.order ≡ slot_count) × Widened l.initial.order l.n l.k l.order))
