-- `peers::connect_at`: the record in the slot, and the clock.
-- Assumes nothing.
use Rattle.rules.specs.Step.{connect_at}
use Rattle.rules.proofs.EndLaws.{leaves_done}
use Rattle.peers.proofs.connect_at.Goals as goal

pub returns : goal.returns
unfolding connect_at
returns c = leaves_done _ _ _ _ _ _ c.connect_slot.ensures
    c.finish.ensures
