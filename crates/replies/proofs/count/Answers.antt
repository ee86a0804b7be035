-- `replies::count`: the first row from which on no number is smaller is the only one that can be that of n.
use mathlib.Core.Path.{sym, ◌∙◌}
use native.Mathlib.Omega.{arith}
use Rattle.replies.proofs.RowLaws.{rows_length}
use Rattle.replies.proofs.CallLaws.{found_here, not_found}
use Rattle.replies.proofs.count.Goals as goal

pub count_at-requires : goal.count_at-requires
count_at-requires c =
    let p = c.place_of-p in
    let t = sym c.is_row.ensures ∙ c.if-is_row.true in
    let f = found_here c.args.cells.now c.args.n c.args.slot p.result p.ensures t in
    let e = rows_length c.args.cells.now in
    let h = f.0 in
    record { size = c.requires.size; row = omega arith; slot = c.requires.slot }

pub returns-then-is_row : goal.returns-then-is_row
returns-then-is_row c =
    let p = c.place_of-p in
    let t = sym c.is_row.ensures ∙ c.if-is_row.true in
    c.count_at.ensures ∙ sym (found_here c.args.cells.now c.args.n c.args.slot p.result p.ensures t).1

pub returns-else-is_row : goal.returns-else-is_row
returns-else-is_row c =
    let p = c.place_of-p in
    let t = sym c.is_row.ensures ∙ c.if-is_row.false in
    sym (not_found c.args.cells.now c.args.n c.args.slot p.result p.ensures c.requires.rise t)
