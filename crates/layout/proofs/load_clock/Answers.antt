use Rattle.layout.proofs.ViewLaws.{clock_load}
use Rattle.layout.proofs.load_clock.Goals as goal

pub returns : goal.returns
returns c = clock_load c.args.cells.now
