-- `replies::rows`: the first cell is the length of the rows.
use mathlib.Core.Path.{sym}
use Rattle.replies.proofs.RowLaws.{rows_length}
use Rattle.replies.proofs.rows.Goals as goal

pub returns : goal.returns
returns c = sym (rows_length c.args.cells.now)
