-- `replies::keep_rows`: after r turns the rows below w are those of the first r that are kept.
use Prim.Native.Nat.{◌≤◌}
use mathlib.Core.Path.{◌≡◌}
use lib.ListN.{length}
use Rattle.replies.specs.View.{rows_in, replies_of}
use Rattle.replies.proofs.CallLaws.{Keeping}
use Rattle.replies.proofs.keep_rows.Given as goal

abbrev pub invariant-loop-r : goal.invariant-loop-r
invariant-loop-r l = (l.r ≤ l.u) × (length (replies_of l.initial.cells) ≡ rows_in l.initial.cells) × Keeping l.initial.cells l.cells l.flags l.r l.w
