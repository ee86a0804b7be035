-- `notes::place`: the numbers passed are at most the one to be put in.
use Prim.Native.Nat.{ℕ, ◌≤◌, ◌<◌, ◌+◌}
use lib.ListN.{get_or}
use Rattle.notes.proofs.place.Given as goal

abbrev pub invariant-loop-p : goal.invariant-loop-p
invariant-loop-p l = (l.p ≤ l.n) × ((k : ℕ) → k < l.p → get_or l.cells (l.at + k) 0 ≤ l.number)
