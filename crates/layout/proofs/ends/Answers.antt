-- `layout::ends`: eight cells of the row, each 0 past the mark.
use Rattle.layout.proofs.SlotLaws.{eight_ends}
use Rattle.layout.proofs.ends.Goals as goal

pub returns : goal.returns
returns c =
    let a = c.args in
    eight_ends a.cells.now a.s _ _ _ _ _ _ _ _
    c.live.ensures
    c.live-2.ensures c.live-3.ensures
    c.live-4.ensures c.live-5.ensures c.live-6.ensures
    c.live-7.ensures c.live-8.ensures
