-- `replies::end`: after r turns the slot has no count in the first r rows.
use Prim.Native.Nat.{◌≤◌}
use mathlib.Core.Path.{◌≡◌}
use lib.ListN.{length}
use Rattle.replies.specs.View.{rows_in, replies_of}
use Rattle.replies.proofs.CallLaws.{Ending}
use Rattle.replies.proofs.end.Given as goal

abbrev pub invariant-loop-r : goal.invariant-loop-r
invariant-loop-r l = (l.r ≤ l.u) × (length (replies_of l.initial.cells) ≡ rows_in l.initial.cells) × Ending l.initial.cells l.cells l.slot l.r
