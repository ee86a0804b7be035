use mathlib.Core.Path.{ap, ◌∙◌}
use Rattle.layout.specs.View.{state_of}
use Rattle.layout.proofs.PlaceLaws.{out_written}
use Rattle.layout.proofs.leave_mesh.Goals as goal

pub returns : goal.returns
returns c =
    ap state_of c.set_bit.ensures.0 ∙ out_written c.args.cells.now c.args.k c.requires.0 c.requires.1
