-- `layout::write_topic`: six cells of one place are written: no other place sees it, and the place reads the record.
use mathlib.Core.Path.{◌≡◌, refl, ap}
use lib.ListN.{set, length}
use Rattle.layout.specs.View.{counter_of}
use Rattle.layout.proofs.PlaceLaws.{topic_written, length_five, length_six}
use lib.ListN.{length-set}
use native.Mathlib.Omega.{arith}
use Rattle.layout.proofs.write_topic.Goals as goal

pub bounds-cells-k-2 : goal.bounds-cells-k-2
bounds-cells-k-2 c = simp length-set (omega arith)

pub bounds-cells-k-3 : goal.bounds-cells-k-3
bounds-cells-k-3 c = simp length-set (omega arith)

pub bounds-cells-k-4 : goal.bounds-cells-k-4
bounds-cells-k-4 c = simp length-set (omega arith)

pub set_bit-requires : goal.set_bit-requires
set_bit-requires c = simp length-set (omega arith)

pub set_bit-requires-2 : goal.set_bit-requires-2
set_bit-requires-2 c =
    let z = c.requires in
    let l : length c.set_bit.new.cells
    ≡ length c.args.cells.now =
    length_five c.args.cells.now _ _ _ _ _ _ _ _ _ _ _ _
    c.set_bit.ensures.0 in
    (omega arith, omega arith)

pub shape_of-cells : goal.shape_of-cells
shape_of-cells c =
    length_six c.args.cells.now _ _ _ _ _
    (length_five c.args.cells.now _ _ _ _ _ _ _ _ _
    _ _ _ c.set_bit.ensures.0) c.set_bit-2.ensures.0

pub returns : goal.returns
returns c =
    let a = c.args in
    topic_written a.cells.now a.k a.t c.requires.0 c.requires.1.0 c.requires.1.1.0 c.requires.1.1.1 _ _ _ _ _ _
    (ap (set a.cells.now (counter_of a.k)) c.lanes.ensures) refl
    refl refl c.set_bit.ensures.0 c.set_bit-2.ensures.0
