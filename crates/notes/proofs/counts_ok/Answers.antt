use mathlib.Core.Path.{refl}
use Rattle.notes.specs.View.{note_from}
use Rattle.notes.proofs.counts_ok.Goals as goal

pub returns : goal.returns
unfolding note_from
returns c = refl
