use Rattle.layout.proofs.ReadLaws.{status_load}
use Rattle.layout.proofs.load_status.Goals as goal

pub returns : goal.returns
returns c =
    status_load c.args.cells.now c.args.slot c.requires.1 _ _ _ c.two.ensures c.bit.ensures.0
    c.bit-2.ensures.0
