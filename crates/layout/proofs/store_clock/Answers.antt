use Rattle.layout.proofs.ViewLaws.{clock_store}
use mathlib.Core.Path.{refl}
use Rattle.layout.proofs.store_clock.Goals as goal

pub returns : goal.returns
returns c = (clock_store c.args.cells.now c.args.time c.requires, refl)
