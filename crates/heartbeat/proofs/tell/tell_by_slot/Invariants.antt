-- `heartbeat::tell::tell_by_slot`: the walk has the actions on the slots that are left still to write (`Telling`).
use mathlib.Core.Path.{◌≡◌}
use Rattle.records.specs.Records.{slot_count}
use Rattle.layout.specs.View.{state_of}
use Rattle.words.specs.Words.{bits_of}
use Rattle.sets.specs.Sets.{ascending}
use Rattle.mesh.specs.Maintenance.{actions_on}
use Rattle.heartbeat.specs.Tell.{ids_in, told_by}
use Rattle.heartbeat.proofs.TellLaws.{Telling}
use Rattle.heartbeat.proofs.tell.tell_by_slot.Given as goal

abbrev pub invariant-loop-slot : goal.invariant-loop-slot
invariant-loop-slot l =
    (l.slot-iterator.set ≡ l.fn.p)
    × Telling (ids_in (state_of l.table)) (told_by (state_of l.table) l.seconds) l.kind l.n (actions_on l.kind (bits_of l.fn.p) (ascending 0 slot_count))
    (bits_of l.fn.p) l.initial.actions l.actions l.k l.slot-iterator.from
