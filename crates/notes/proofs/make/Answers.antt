use Rattle.records.specs.Records.{slot_count}
use mathlib.Core.Path.{sym}
use native.Mathlib.Omega.{arith}
use lib.Seq.{length-take-le}
use Rattle.gossip.proofs.CellLaws.{front_filled, zero_run}
use Rattle.notes.proofs.NoteLaws.{notes_made}
use Rattle.notes.proofs.make.Goals as goal

pub slice_bounds-fill-end-2 : goal.slice_bounds-fill-end-2
slice_bounds-fill-end-2 c = let p = c.requires in sym (length-take-le slot_count _ (omega arith))

pub returns : goal.returns
returns c =
    let p = c.requires in
    notes_made _ slot_count (omega arith)
    (zero_run (front_filled c.args.cells.now _ slot_count (omega arith) (c.fill.ensures.after (λ y e. e))))
