use mathlib.Core.Path.{refl}
use Rattle.validity.specs.Valid.{zero_topic}
use Rattle.validity.proofs.valid.zero_topic.Goals as goal

pub returns : goal.returns
unfolding zero_topic
returns c = refl
