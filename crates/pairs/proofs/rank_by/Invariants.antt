-- `pairs::rank_by` meets its contract. n counts the slots passed.
-- Assumes nothing.
use Prim.Native.Nat.{◌≤◌}
use mathlib.Core.Path.{◌≡◌}
use Rattle.records.specs.Records.{slot_count}
use Rattle.pairs.specs.Pairs.{rank_by}
use Rattle.pairs.proofs.rank_by.Given as goal

abbrev pub invariant-loop-a : goal.invariant-loop-a
invariant-loop-a l =
    (l.a ≤ slot_count) × (l.n ≤ l.a) × (l.n ≡ rank_by l.a l.scores l.m l.places l.score l.place)
