-- `supplier_entry::thousandths` meets its contract. Assumes nothing.
use Rattle.index.proofs.Kit.{arith, rules}
use mir.Syntax.{w64}
use mir.Val.{SFits}
use mir.Facts.{to_z-of_z}
use Rattle.supplier_entry.proofs.FactorLaws.{thousandths_are}
use Rattle.supplier_entry.proofs.thousandths.Goals as goal

pub search-requires : goal.search-requires
search-requires c =
    let high : SFits w64 c.args.limit.high = search rules in
    let m = rw (to_z-of_z high) at c.nat_abs-high.ensures in
    (omega (arith, c.requires.0.most), c.requires.1)

pub returns : goal.returns
returns c =
    let low : SFits w64 c.args.limit.low = search rules in
    let high : SFits w64 c.args.limit.high = search rules in
    thousandths_are c.args.limit _ _ _ _ c.requires.0
    (rw (to_z-of_z low) at c.nat_abs-low.ensures)
    (rw (to_z-of_z high) at c.nat_abs-high.ensures) c.search.ensures
