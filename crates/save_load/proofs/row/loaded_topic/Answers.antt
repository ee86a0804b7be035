-- `save_load::row::loaded_topic` meets its contract. Assumes nothing.
use mathlib.Core.Path.{refl}
use Rattle.saves.specs.Load.{loaded_topic}
use Rattle.save_load.proofs.row.loaded_topic.Goals as goal

pub returns : goal.returns
unfolding loaded_topic
returns c = refl
