use Rattle.rows.proofs.ViewLaws.{clock_load}
use Rattle.rows.proofs.load_clock.Goals as goal

pub returns : goal.returns
returns c = clock_load c.args.cells.now
