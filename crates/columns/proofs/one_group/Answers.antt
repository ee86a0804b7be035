-- `columns::one_group`: three unions of 0. Assumes nothing.
use Rattle.index.proofs.Index.{both}
use Rattle.columns.proofs.WithinLaws.{all_zero, one_group}
use Rattle.columns.proofs.one_group.Goals as goal

pub returns : goal.returns
returns c =
    λ t.
    let b = both _ _ t in
    let a = both _ _ b.0 in
    let e = c.three-u.ensures in
    one_group
    _
    _
    c.requires
    (all_zero _ _ _ _ e.0 a.0)
    (all_zero _ _ _ _ e.1.0 a.1)
    (all_zero _ _ _ _ e.1.1 b.1)
