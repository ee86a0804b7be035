-- `leaving::negatives`: the loop builds the flags from the front.
use Rattle.records.specs.Records.{slot_count}
use Rattle.index.proofs.Kit.{false}
use Rattle.index.proofs.Lists.{Built}
use Rattle.layout.specs.View.{state_of}
use Rattle.leaving.specs.Slots.{is_negative_member}
use Rattle.leaving.proofs.negatives.Given as goal

abbrev pub invariant-loop-slot : goal.invariant-loop-slot
invariant-loop-slot l =
    Built false (is_negative_member (state_of l.table) l.topic) slot_count l.slot l.flags
