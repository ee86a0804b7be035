-- `fields::sized` meets its contract. Assumes nothing.
use Rattle.index.proofs.Kit.{arith}
use Rattle.fields.proofs.FieldLaws.{sized_in, sized_out}
use Rattle.fields.proofs.sized.Goals as goal

pub returns-then-size-left : goal.returns-then-size-left
returns-then-size-left c = sized_in _ _ _ _ _ (omega arith)

pub returns : goal.returns
returns c = sized_out _ _ _ _ _ (omega arith)
