use Rattle.layout.proofs.ReadLaws.{end_load}
use Rattle.layout.proofs.load_end.Goals as goal

pub returns : goal.returns
returns c =
    end_load c.args.cells.now c.args.slot c.requires.1.0 c.args.t _ c.requires.1.1 c.live.ensures
