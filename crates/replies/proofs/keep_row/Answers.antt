-- `replies::keep_row`: the rows below the next place are those before it and, if it is kept, the row itself.
use Rattle.index.proofs.Flags.{not_yes, not_no}
use native.Mathlib.Omega.{arith}
use Rattle.replies.proofs.CallLaws.{passed_over, passed_stay, passed_down}
use Rattle.replies.proofs.keep_row.Goals.{then-to-from, else-to-from}
use Rattle.replies.proofs.keep_row.Goals as goal

pub returns-then-not-kept : goal.returns-then-not-kept
returns-then-not-kept c =
    passed_over c.args.cells.now c.args.from c.args.to c.requires.low c.args.kept (not_yes c.if-not-kept.true)

pub copy_row-requires : goal.copy_row-requires
copy_row-requires c =
    record { size = c.requires.size; first = c.requires.row; second = omega arith; apart = λ e. omega arith }

pub returns : goal.returns
returns c =
    let a = c.args in
    elim c.if-to-from.branch [
      | then-to-from w ↦ rw w.cells-is
          (passed_down a.cells.now a.from a.to c.requires.low _ a.kept (not_no c.if-not-kept.false) w.if-to-from.true
          w.copy_row.ensures)
      | else-to-from w ↦ rw w.cells-is
          (passed_stay a.cells.now a.from a.to c.requires.low a.kept (not_no c.if-not-kept.false) w.if-to-from.false)
    ]
