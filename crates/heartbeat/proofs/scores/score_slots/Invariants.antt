-- `heartbeat::scores::score_slots`: the scores of the set's slots below those that are left are taken.
use Rattle.index.proofs.Kit.{◌≡◌}
use Rattle.layout.specs.View.{state_of}
use Rattle.words.specs.Words.{bits_of}
use Rattle.heartbeat.proofs.HeightLaws.{Walked}
use Rattle.heartbeat.proofs.scores.score_slots.Given as goal

abbrev pub invariant-loop-slot : goal.invariant-loop-slot
invariant-loop-slot l =
    (l.slot-iterator.set ≡ l.fn.set)
    × Walked (state_of l.table) (bits_of l.fn.set) l.initial.heights l.slot-iterator.from l.heights
