-- `heartbeat::seen::candidates`: the eligible slots below those that are left are sifted.
use Rattle.index.proofs.Kit.{◌≡◌}
use Rattle.layout.specs.View.{state_of}
use Rattle.words.specs.Words.{bits_of}
use Rattle.heartbeat.proofs.SeenLaws.{Sifted}
use Rattle.heartbeat.proofs.seen.candidates.Given as goal

abbrev pub invariant-loop-slot : goal.invariant-loop-slot
invariant-loop-slot l =
    (l.slot-iterator.set ≡ l.initial.slot-iterator.set) × Sifted (state_of l.table) l.time l.topic l.slot-iterator.from (bits_of l.r)
