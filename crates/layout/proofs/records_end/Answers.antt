-- `layout::records_end`: past the mark a record is its bits, and there are none.
use mathlib.Core.Path.{refl}
use native.Mathlib.Omega.{arith}
use Rattle.layout.proofs.EndLaws.{or_none, empty_from, empty_last}
use Rattle.layout.proofs.records_end.Goals as goal

pub returns-then-used : goal.returns-then-used
returns-then-used c = (omega arith, empty_last _)

pub returns-then-all_past-ne0 : goal.returns-then-all_past-ne0
returns-then-all_past-ne0 c = (omega arith, empty_last _)

pub returns : goal.returns
returns c =
    let z = or_none _ _ c.if-all_past-ne0.false in
    (omega arith, empty_from _ _ refl (c.all_past.ensures z.0) (c.all_past-2.ensures z.1))
