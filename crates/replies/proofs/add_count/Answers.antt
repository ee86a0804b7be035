-- `replies::add_count`: one cell is written, with one lane of it one more.
use native.Mathlib.Omega.{arith}
use Rattle.replies.proofs.RowLaws.{count_lane, more_count}
use Rattle.replies.proofs.add_count.Goals as goal

pub more-requires : goal.more-requires
more-requires c =
    (omega arith, rw (count_lane c.args.cells.now c.args.r c.args.slot c.requires.slot) c.requires.small)

pub returns : goal.returns
returns c =
    more_count c.args.cells.now c.args.r c.args.slot c.more.result c.requires.size c.requires.row c.requires.slot
    c.more.ensures
