use Prim.Native.Nat.{◌<◌, ◌/◌, ◌%◌}
use native.Mathlib.Omega.{arith}
use Rattle.notes.specs.View.{head_of}
use Rattle.notes.proofs.NoteLaws.{ihaves_at, ihave_fits, notes_counted}
use Rattle.notes.proofs.count_ihave.Goals as goal

pub overflow_add-cells : goal.overflow_add-cells
overflow_add-cells c =
    let e = ihaves_at c.args.cells.now c.args.slot c.requires.slot in
    let l = c.requires.ihaves in
    let h : head_of c.args.cells.now c.args.slot / 64 % 64 < 63 = omega arith in
    let g = c.slice_known-1.given c.args.slot in
    let f = ihave_fits (head_of c.args.cells.now c.args.slot) (omega arith) h in
    omega arith

pub returns : goal.returns
returns c =
    notes_counted c.args.cells.now c.args.slot c.requires.slot c.requires.size c.requires.ihaves
