-- `gossip_peers::tell::tell_first`: before a turn the actions on the slots of the set among those of the order that were seen are written, no more
-- of them than are asked for.
use Rattle.index.proofs.Kit.{◌≤◌}
use lib.ListN.{length}
use Rattle.layout.specs.View.{state_of}
use Rattle.words.specs.Words.{bits_of}
use Rattle.gossip_peers.specs.Peers.{Tells}
use Rattle.gossip_peers.proofs.TellLaws.{picked_to}
use Rattle.gossip_peers.proofs.tell.tell_first.Given as goal

abbrev pub invariant-loop-s : goal.invariant-loop-s
invariant-loop-s l =
    (l.s-index ≤ length l.order)
    × (l.n ≤ l.most)
    × Tells (picked_to (state_of l.table) (bits_of l.set) l.order l.s-index) l.initial.actions l.actions l.n
