-- `trace::main`: its turns and readings are a run of `EveryCut`. Assumes nothing.
use mathlib.Core.Path.{◌≡◌}
use lib.ListN.{length}
use Rattle.trace_feed.proofs.Moves.{Moves}
use Rattle.trace.proofs.main.Given as goal

abbrev pub invariant-loop : goal.invariant-loop
invariant-loop l = Moves l.w l.table l.buf × ((length l.buf ≡ 65536) × (length l.page ≡ 65536))
