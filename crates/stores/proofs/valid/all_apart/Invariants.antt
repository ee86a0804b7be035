-- `stores::valid::all_apart`: after w turns the numbers of the first w windows are apart, each with its bucket marked.
-- Assumes nothing.
use Prim.Native.Nat.{◌≤◌}
use mathlib.Core.Bool.{true}
use mathlib.Core.Path.{◌≡◌}
use Rattle.gossip.specs.Notes.{window_count}
use Rattle.gossip.specs.Valid.{apart}
use Rattle.stores.specs.Marks.{before, Seen}
use Rattle.stores.proofs.valid.all_apart.Given as goal

abbrev pub invariant-loop-w : goal.invariant-loop-w
invariant-loop-w l = (l.w ≤ window_count) × (apart (before l.cells l.t l.w) ≡ true) × Seen (before l.cells l.t l.w) l.seen
