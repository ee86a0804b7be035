use mathlib.Core.Path.{ap}
use Rattle.records.specs.declared.Peer.{Peer}
use Rattle.rows.proofs.ViewLaws.{peer_load}
use Rattle.rows.proofs.load_id.Goals as goal

pub returns : goal.returns
returns c = ap (λ (r : Peer). r.id) (peer_load c.args.cells.now c.args.slot c.requires.1)
