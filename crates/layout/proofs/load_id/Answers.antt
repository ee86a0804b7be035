use Rattle.layout.proofs.ReadLaws.{id_load}
use Rattle.layout.proofs.load_id.Goals as goal

pub returns : goal.returns
returns c = id_load c.args.cells.now c.args.slot c.requires.1 _ c.live.ensures
