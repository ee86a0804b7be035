use mathlib.Core.Path.{sym, ◌∙◌}
use native.Mathlib.Omega.{arith}
use lib.Seq.{length-take-le}
use Rattle.gossip.proofs.CellLaws.{front_filled, zero_run}
use Rattle.stores.proofs.ViewLaws.{stores_none, windows_none}
use Rattle.stores.proofs.make.Goals as goal

pub slice_bounds-fill-end-2 : goal.slice_bounds-fill-end-2
slice_bounds-fill-end-2 c = let p = c.requires in sym (length-take-le 40 _ (omega arith))

pub returns : goal.returns
returns c =
    let p = c.requires in
    let f = front_filled c.args.cells.now _ 40 (omega arith) (c.fill.ensures.after (λ y e. e)) in
    (stores_none _ (zero_run f), windows_none _ (f.size ∙ p) (zero_run f))
