use mathlib.Core.Path.{refl}
use Rattle.marks.specs.Marks.{is_marked}
use Rattle.marks.proofs.is_marked.Goals as goal

pub returns : goal.returns
unfolding is_marked
returns c = refl
