-- `pairs::best_by_pairs` meets its contract. The loop builds the set from the front.
-- Assumes nothing.
use mathlib.Core.Bool.{false}
use Rattle.records.specs.Records.{slot_count}
use Rattle.index.proofs.Lists.{Built}
use Rattle.pairs.proofs.PlaceLaws.{keeps}
use Rattle.pairs.proofs.best_by_pairs.Given as goal

abbrev pub invariant-loop-s : goal.invariant-loop-s
invariant-loop-s l = Built false (keeps slot_count l.scores l.m l.standing l.k) slot_count l.s l.r
