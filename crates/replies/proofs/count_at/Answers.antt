-- `replies::count_at`: the lane of a slot is its count.
use mathlib.Core.Path.{◌∙◌}
use Rattle.replies.proofs.RowLaws.{count_lane}
use Rattle.replies.proofs.count_at.Goals as goal

pub returns : goal.returns
returns c =
    c.lane.ensures ∙ count_lane c.args.cells.now c.args.r c.args.slot c.requires.slot
