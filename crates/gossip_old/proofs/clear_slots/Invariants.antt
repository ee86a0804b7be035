-- `gossip_old::clear_slots`: before the turn of a slot of the set the notes of those below it are emptied.
use Rattle.index.proofs.Kit.{◌≡◌}
use lib.ListN.{length}
use Rattle.words.specs.Words.{bits_of}
use Rattle.gossip_table.specs.View.{gossip_of}
use Rattle.gossip_old.proofs.ClearLaws.{Cleared}
use Rattle.gossip_old.proofs.clear_slots.Given as goal

abbrev pub invariant-loop-slot : goal.invariant-loop-slot
invariant-loop-slot l =
    (l.slot-iterator.set ≡ l.fn.set)
    × (length l.gossip ≡ length l.initial.gossip)
    × Cleared (bits_of l.fn.set) l.slot-iterator.from (gossip_of l.initial.gossip) (gossip_of l.gossip)
