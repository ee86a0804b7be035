use Rattle.layout.proofs.ReadLaws.{graft_load}
use Rattle.layout.proofs.load_graft.Goals as goal

pub returns : goal.returns
returns c =
    graft_load c.args.cells.now c.args.t c.args.slot c.requires.1.1.0 c.requires.1.0 c.requires.1.1.1
