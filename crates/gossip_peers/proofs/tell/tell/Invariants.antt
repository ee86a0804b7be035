-- `gossip_peers::tell::tell`: before the turn of a slot of the set the actions on those below it are written.
use Rattle.index.proofs.Kit.{◌≡◌}
use Rattle.layout.specs.View.{state_of}
use Rattle.words.specs.Words.{bits_of}
use Rattle.gossip_peers.specs.Peers.{Tells}
use Rattle.gossip_peers.proofs.TellLaws.{tell_to}
use Rattle.gossip_peers.proofs.tell.tell.Given as goal

abbrev pub invariant-loop-slot : goal.invariant-loop-slot
invariant-loop-slot l =
    (l.slot-iterator.set ≡ l.fn.set)
    × Tells (tell_to (state_of l.table) l.kind (bits_of l.fn.set) l.slot-iterator.from) l.initial.actions l.actions l.n
