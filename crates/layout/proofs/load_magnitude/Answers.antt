use Rattle.layout.proofs.ParamLaws.{magnitude_load}
use Rattle.layout.proofs.load_magnitude.Goals as goal

pub returns : goal.returns
returns c =
    magnitude_load c.args.cells.now c.args.i _ c.requires.1 c.param_place.ensures.0
