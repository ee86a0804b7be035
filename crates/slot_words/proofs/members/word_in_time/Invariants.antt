-- `slot_words::members::word_in_time`: a walk over the set bits. Assumes nothing.
use Prim.Native.Nat.{◌+◌, ◌*◌, ◌≤◌}
use Rattle.records.specs.Records.{topic_in, place}
use Rattle.layout.specs.View.{state_of}
use Rattle.slot_words.proofs.WalkLaws.{Walked}
use Rattle.slot_words.proofs.members.word_in_time.Given as goal

abbrev pub invariant-loop-b : goal.invariant-loop-b
invariant-loop-b l =
    Walked (λ j. (topic_in (state_of l.table) (place (64 * l.i + j) l.t)).graft + (topic_in (state_of l.table) (place (64 * l.i + j) l.t)).mesh ≤ l.clock) l.w
    l.b

abbrev pub decreases-loop-b : goal.decreases-loop-b
decreases-loop-b l = l.b
