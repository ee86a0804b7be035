-- `validity::valid::connected_ok`: the id and the retain end, then the ranges. Assumes nothing.
use Rattle.validity.proofs.OrderLaws.{id_fails, ranges_are}
use Rattle.validity.proofs.valid.connected_ok.Goals as goal

pub returns-then-not-p : goal.returns-then-not-p
returns-then-not-p c = id_fails _ _ c.requires.1.0 c.if-not-p.true

pub returns : goal.returns
returns c =
    ranges_are _ _ c.requires.1.0 c.if-not-p.false c.requires.1.1 _ c.peer_ranges.ensures
