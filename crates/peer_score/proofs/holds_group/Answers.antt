-- `peer_score::holds_group`: the tests in the order of the spec. Assumes nothing.
use mathlib.Core.Path.{refl}
use Rattle.records.specs.Records.{holds_group}
use Rattle.peer_score.proofs.holds_group.Goals as goal

pub returns : goal.returns
unfolding holds_group
returns c = refl
