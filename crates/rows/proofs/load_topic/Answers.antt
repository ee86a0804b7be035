use mathlib.Core.Path.{◌∙◌}
use Rattle.rows.proofs.ViewLaws.{topic_load}
use Rattle.rows.proofs.load_topic.Goals as goal

pub returns : goal.returns
returns c = c.read_topic.ensures ∙ topic_load _ _ c.requires.1
