use mathlib.Core.Path.{sym}
use native.Mathlib.Omega.{arith}
use lib.Seq.{length-take-le}
use Rattle.gossip.proofs.CellLaws.{zero_front}
use Rattle.stores.proofs.ViewLaws.{stores_none}
use Rattle.stores.proofs.is_quiet.Goals as goal

pub slice_bounds-are_zero-end : goal.slice_bounds-are_zero-end
slice_bounds-are_zero-end c = let p = c.requires in sym (length-take-le 40 _ (omega arith))

pub returns : goal.returns
returns c e =
    let p = c.requires in
    stores_none c.args.cells.now (zero_front c.args.cells.now 40 _ (omega arith) c.are_zero.ensures e)
