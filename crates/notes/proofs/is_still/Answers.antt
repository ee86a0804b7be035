use borrow.Author.Tests.{eqb-true}
use Rattle.notes.proofs.NoteLaws.{still_at}
use Rattle.notes.proofs.is_still.Goals as goal

pub returns : goal.returns
returns c = λ e.
    still_at c.args.cells.now c.args.slot c.requires.slot (eqb-true _ 0 e)
