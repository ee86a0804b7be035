-- `columns::peers_within`: the tests of the three unions, each with its room. Assumes nothing.
use Rattle.index.proofs.Index.{both}
use Rattle.columns.proofs.WithinLaws.{below_top, in_halves, peers_within}
use Rattle.columns.proofs.peers_within.Goals as goal

pub returns : goal.returns
returns c =
    λ t.
    let b = both _ _ t in
    let a = both _ _ b.0 in
    let e = c.three-u.ensures in
    peers_within
    _
    _
    c.requires
    _
    _
    _
    _
    (below_top _ _ _ _ _ _ e.0 c.room.ensures.0 a.0)
    (below_top _ _ _ _ _ _ e.1.0 c.room-2.ensures.0 a.1)
    (in_halves _ _ _ _ _ _ e.1.1 c.halves_room.ensures (c.halves.ensures b.1))
