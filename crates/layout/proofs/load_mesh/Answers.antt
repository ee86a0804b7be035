use Rattle.layout.proofs.ReadLaws.{mesh_load}
use Rattle.layout.proofs.load_mesh.Goals as goal

pub returns : goal.returns
returns c =
    mesh_load c.args.cells.now c.args.t c.args.slot c.requires.1.1.0 c.requires.1.0 c.requires.1.1.1
