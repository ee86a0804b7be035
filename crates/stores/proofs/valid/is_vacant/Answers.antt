use native.Mathlib.Omega.{arith}
use mathlib.Core.Path.{refl, ◌∙◌}
use Rattle.stores.proofs.ApartLaws.{vacant_part}
use Rattle.stores.proofs.valid.is_vacant.Goals as goal

pub returns : goal.returns
returns c = let p = c.requires in c.are_zero.ensures ∙ vacant_part c.args.cells.now c.args.t _ _ refl (omega arith) (omega arith)
