-- `trace_feed::shift`: turn by turn one byte more stands at the front; the one that is read next has not been written over.
use Prim.Native.Nat.{◌+◌, ◌≤◌}
use mathlib.Core.Path.{◌≡◌}
use lib.ListN.{length}
use Rattle.trace_feed.proofs.WindowLaws.{Shifted}
use Rattle.trace_feed.proofs.shift.Given as goal

abbrev pub invariant-loop-k : goal.invariant-loop-k
invariant-loop-k l = (l.k ≤ l.n) × ((l.at + l.n ≤ length l.initial.buf) × ((length l.buf ≡ length l.initial.buf) × Shifted l.at l.initial.buf l.k l.buf))
