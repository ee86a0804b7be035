-- `replies::all_ok`: after r turns the first r rows rise and are within their bounds.
use Prim.Native.Nat.{◌≤◌}
use mathlib.Core.Path.{◌≡◌}
use lib.ListN.{length}
use Rattle.replies.specs.View.{rows_in, replies_of}
use Rattle.replies.specs.Asked.{on_bits}
use Rattle.replies.proofs.TestLaws.{Tested}
use Rattle.replies.proofs.all_ok.Given as goal

abbrev pub invariant-loop-r : goal.invariant-loop-r
invariant-loop-r l = (l.r ≤ l.u) × (length (replies_of l.cells) ≡ rows_in l.cells) × Tested (on_bits l.connected) l.most l.cells l.r
