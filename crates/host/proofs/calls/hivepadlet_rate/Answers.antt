-- `host::hivepadlet_rate` meets its contract. Assumes nothing.
use mir.Facts.{to_z-of_z}
use Rattle.host.proofs.calls.hivepadlet_rate.Goals as goal

pub returns : goal.returns
returns c = rw (to_z-of_z c.ranges.p5) at c.rate.ensures
