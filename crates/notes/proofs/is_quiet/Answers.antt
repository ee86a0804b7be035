use Rattle.records.specs.Records.{slot_count}
use mathlib.Core.Path.{sym}
use native.Mathlib.Omega.{arith}
use lib.Seq.{length-take-le}
use Rattle.gossip.proofs.CellLaws.{zero_front}
use Rattle.notes.proofs.NoteLaws.{still_at}
use Rattle.notes.proofs.is_quiet.Goals as goal

pub slice_bounds-are_zero-end : goal.slice_bounds-are_zero-end
slice_bounds-are_zero-end c = let p = c.requires in sym (length-take-le slot_count _ (omega arith))

pub returns : goal.returns
returns c e s h =
    let p = c.requires in
    still_at c.args.cells.now s h (zero_front c.args.cells.now slot_count _ (omega arith) c.are_zero.ensures e s h)
