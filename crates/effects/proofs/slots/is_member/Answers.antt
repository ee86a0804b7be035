-- `effects::slots::is_member`: the flag as loaded.
-- Assumes nothing.
use Rattle.effects.specs.Effects.{is_member}
use Rattle.effects.proofs.slots.is_member.Goals as goal

pub returns : goal.returns
unfolding is_member
returns c = rw c.load_member.ensures
