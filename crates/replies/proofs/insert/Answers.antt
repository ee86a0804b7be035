-- `replies::insert`: a place is opened, a row put there, and one row more is in use.
use mathlib.Core.Path.{refl, ◌∙◌}
use native.Mathlib.Omega.{arith}
use lib.ListN.{length-set}
use Rattle.replies.proofs.CallLaws.{insert_rows}
use Rattle.replies.proofs.insert.Goals as goal

pub open_rows-requires : goal.open_rows-requires
open_rows-requires c =
    record { size = c.requires.size; place = c.requires.place; room = c.requires.room }

pub blank_row-requires : goal.blank_row-requires
blank_row-requires c =
    (c.open_rows.ensures.size ∙ c.requires.size, omega arith)

pub bounds-cells-0-2 : goal.bounds-cells-0-2
bounds-cells-0-2 c = let r = c.blank_row.ensures.size in omega arith

pub shape_of-cells : goal.shape_of-cells
shape_of-cells c =
    simp length-set (c.blank_row.ensures.size ∙ c.open_rows.ensures.size)

pub returns : goal.returns
returns c =
    let o = c.open_rows.ensures in
    let r = c.blank_row.ensures in
    record {
      size = simp length-set (r.size ∙ o.size);
      rows = insert_rows c.args.cells.now _ _ c.args.p _ c.args.n c.requires.size refl c.requires.place o r;
    }
