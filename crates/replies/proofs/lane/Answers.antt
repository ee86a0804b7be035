-- `replies::lane` is its definition.
use mathlib.Core.Path.{refl}
use Rattle.replies.specs.View.{lane_in}
use Rattle.replies.proofs.lane.Goals as goal

pub returns : goal.returns
unfolding lane_in
returns c = refl
