use native.Mathlib.Omega.{arith}
use Rattle.notes.proofs.NoteLaws.{size_at, holds_at}
use Rattle.notes.proofs.holds.Goals as goal

pub has-requires : goal.has-requires
has-requires c =
    let l = size_at c.args.cells.now c.args.slot c.requires.slot c.requires.held in
    let z = c.requires.size in
    omega arith

pub returns : goal.returns
returns c =
    let l = size_at c.args.cells.now c.args.slot c.requires.slot c.requires.held in
    holds_at c.args.cells.now c.args.slot c.args.number _ _ c.requires.slot l c.row_at.ensures.0
    c.has.ensures
