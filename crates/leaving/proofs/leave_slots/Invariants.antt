-- `leaving::leave_slots`: before each turn the walk stands where the rules' walk does (`Walking`).
use Rattle.records.specs.Records.{slot_count}
use Rattle.index.proofs.Kit.{◌≤◌}
use Rattle.layout.specs.View.{state_of}
use Rattle.leaving.proofs.LeaveLaws.{Walking}
use Rattle.leaving.proofs.leave_slots.Given as goal

abbrev pub invariant-loop-slot : goal.invariant-loop-slot
invariant-loop-slot l =
    (l.slot ≤ slot_count) × Walking (state_of l.initial.table) l.initial.actions l.topic l.end l.slot l.table l.actions l.at
