use native.Mathlib.Omega.{arith}
use Rattle.gossip.proofs.CellLaws.{filled}
use Rattle.replies.specs.View.{start_of}
use Rattle.replies.proofs.RowLaws.{blank_set}
use Rattle.replies.proofs.blank_row.Goals as goal

pub returns : goal.returns
returns c =
    let a = c.args in
    let s = c.requires.0 in
    let f = filled a.cells.now _ (start_of a.r) _ 28 (omega arith) (omega arith) (c.fill.ensures.after (λ y e. e)) in
    blank_set a.cells.now a.r a.n a.place c.requires.0 c.requires.1 _ f
