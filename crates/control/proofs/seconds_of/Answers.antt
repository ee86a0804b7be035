-- `control::seconds_of`: none, or those that are given, cut.
-- Assumes nothing.
use Rattle.control.proofs.PruneLaws.{seconds_none, seconds_cut}
use Rattle.control.proofs.seconds_of.Goals as goal

pub returns-then-seconds-eq0 : goal.returns-then-seconds-eq0
returns-then-seconds-eq0 c = seconds_none _ _ _ c.requires.router c.if-seconds-eq0.true c.load_magnitude.ensures

pub returns : goal.returns
returns c = seconds_cut _ _ _ c.if-seconds-eq0.false c.min.ensures
