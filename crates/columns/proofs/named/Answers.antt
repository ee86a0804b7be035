-- `columns::named`: the sums wrap for 0 alone. Assumes nothing.
use Rattle.std.proofs.Common.{refl}
use Rattle.index.proofs.Index.{both}
use Rattle.columns.proofs.WithinLaws.{below_top, named}
use Rattle.columns.proofs.named.Goals as goal

pub returns : goal.returns
returns c =
    λ t.
    let b = both _ _ t in
    named
    _
    _
    c.requires
    (below_top _ _ _ _ _ _ c.gathered.ensures refl b.0)
    (below_top _ _ _ _ _ _ c.gathered-2.ensures refl b.1)
