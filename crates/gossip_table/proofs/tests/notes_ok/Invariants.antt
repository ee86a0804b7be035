-- `gossip_table::tests::notes_ok`: where nothing is held all pass; else the loop asks slot by slot.
use Rattle.index.proofs.Kit.{◌≤◌, ◌≡◌, every, true}
use Rattle.records.specs.Records.{slot_count, peer_in}
use Rattle.layout.specs.View.{state_of}
use Rattle.gossip.specs.Notes.{note_in}
use Rattle.gossip.specs.Valid.{note_ok}
use Rattle.gossip_table.specs.View.{gossip_of}
use Rattle.gossip_table.proofs.tests.notes_ok.Given as goal

abbrev pub invariant-loop-slot : goal.invariant-loop-slot
invariant-loop-slot l =
    (l.slot ≤ slot_count)
    × (every l.slot (λ s. note_ok (gossip_of l.gossip).setup (peer_in (state_of l.table) s) (note_in (gossip_of l.gossip) s)) ≡ true)
