use mathlib.Core.Path.{refl}
use Rattle.layout.proofs.ReadLaws.{word_read}
use Rattle.layout.proofs.word.Goals as goal

pub returns : goal.returns
returns c = (refl, λ s h. word_read c.args.cells.now c.args.o s h)
