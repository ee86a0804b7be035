use mathlib.Core.Path.{refl}
use Rattle.layout.proofs.EndLaws.{flags_from}
use Rattle.layout.proofs.load_used.Goals as goal

pub returns : goal.returns
returns c = (refl, flags_from c.args.cells.now _ refl)
