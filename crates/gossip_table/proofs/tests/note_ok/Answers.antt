-- `gossip_table::tests::note_ok`: a slot of which nothing is held passes, another is judged by its status.
use Rattle.gossip_table.proofs.NoteParts.{notes_size}
use Rattle.gossip_table.proofs.TestLaws.{still_passes, judged_passes}
use Rattle.gossip_table.proofs.tests.note_ok.Goals as goal

pub is_still-requires : goal.is_still-requires
is_still-requires c = record { size = notes_size c.args.gossip.now c.requires.sizes; slot = c.requires.slot }

pub returns-then-is_still : goal.returns-then-is_still
returns-then-is_still c =
    still_passes c.args.gossip.now _ _ (c.is_still.ensures c.if-is_still.true)

pub note_ok-requires : goal.note_ok-requires
note_ok-requires c = record { size = notes_size c.args.gossip.now c.requires.sizes; slot = c.requires.slot }

pub returns : goal.returns
returns c =
    judged_passes c.args.gossip.now _ _ _ _ _ _ c.load_status-status.ensures c.requires.puts c.requires.answers
    c.note_ok.ensures
