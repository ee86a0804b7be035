-- `replies::end_count`: one cell is written, with one lane of it 0.
use Rattle.replies.proofs.RowLaws.{count_set}
use Rattle.replies.proofs.end_count.Goals as goal

pub returns : goal.returns
returns c =
    count_set c.args.cells.now c.args.r c.args.slot c.none.result 0 c.requires.size c.requires.row c.requires.slot
    c.none.ensures
