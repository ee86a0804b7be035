use Rattle.layout.proofs.ReadLaws.{retain_load}
use Rattle.layout.proofs.load_retain.Goals as goal

pub returns : goal.returns
returns c = retain_load c.args.cells.now c.args.slot c.requires.1 _ c.live.ensures
