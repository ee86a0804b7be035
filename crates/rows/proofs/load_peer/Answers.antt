use mathlib.Core.Path.{◌∙◌}
use Rattle.rows.proofs.ViewLaws.{peer_load}
use Rattle.rows.proofs.load_peer.Goals as goal

pub returns : goal.returns
returns c = c.read_peer.ensures ∙ peer_load _ _ c.requires.1
