-- `gossip_table::noted::holds`: the note is the one in its part.
use borrow.Author.Rules.{rules}
use Rattle.gossip.specs.Notes.{note_in}
use Rattle.notes.specs.View.{note_at}
use Rattle.gossip_table.specs.View.{gossip_of}
use Rattle.gossip_table.proofs.NoteParts.{set_fits}
use Rattle.gossip_table.proofs.noted.holds.Goals as goal

pub holds-requires : goal.holds-requires
holds-requires c = search set_fits

pub returns : goal.returns
unfolding gossip_of note_in note_at
returns c = search rules
