-- `host_calls::rate` meets its contract. Assumes nothing.
use mir.Facts.{to_z-of_z}
use Rattle.rules.proofs.CountLaws.{few_actions}
use Rattle.host_calls.proofs.HostLaws.{hosts}
use Rattle.host_calls.proofs.rate.Goals as goal

pub code-requires : goal.code-requires
code-requires c = few_actions _ _ _ _ _ _ c.rate.ensures

pub returns : goal.returns
returns c = rw (to_z-of_z c.ranges.p5) at
    (hosts _ c.rate.ensures _ c.code.ensures)
