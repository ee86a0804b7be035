use Prim.Native.Nat.{◌*◌}
use native.Mathlib.Omega.{arith}
use Rattle.gossip.proofs.CellLaws.{filled}
use Rattle.stores.proofs.ChangeLaws.{emptied_cells}
use Rattle.stores.proofs.ViewLaws.{changed_stores}
use Rattle.stores.proofs.empty.Goals as goal

pub returns : goal.returns
returns c =
    let a = c.args in
    let s = c.requires.0.cells in
    let f = filled a.cells.now _ (a.t * 5) _ 5 (omega arith) (omega arith) (c.fill.ensures.after (λ y e. e)) in
    let m = emptied_cells _ _ a.t c.requires.0 c.requires.1 f in
    (changed_stores _ _ _ _ m, m.windows)
