use mathlib.Core.Path.{sym}
use Rattle.notes.proofs.NoteLaws.{ihaves_at}
use Rattle.notes.proofs.load_ihaves.Goals as goal

pub returns : goal.returns
returns c = sym (ihaves_at c.args.cells.now c.args.slot c.requires.slot)
