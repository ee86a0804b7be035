-- `heartbeat::settle::settle`: where the walk has its next slot, the rules' walk stands, since the slots between stay as they are.
use Rattle.index.proofs.Kit.{◌≡◌}
use Rattle.layout.specs.View.{state_of}
use Rattle.words.specs.Words.{bits_of}
use Rattle.heartbeat.proofs.SettleLaws.{Settling}
use Rattle.heartbeat.proofs.settle.settle.Given as goal

abbrev pub invariant-loop-slot : goal.invariant-loop-slot
invariant-loop-slot l =
    (l.slot-iterator.set ≡ l.initial.slot-iterator.set)
    × Settling (state_of l.initial.table) l.time l.topic (bits_of l.mesh) l.slot-iterator.from l.table
