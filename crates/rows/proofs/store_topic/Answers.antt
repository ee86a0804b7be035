use mathlib.Core.Path.{◌∙◌, ap}
use Rattle.rows.specs.View.{state_of_rows, cells_of_topic}
use Rattle.rows.proofs.ViewLaws.{topic_store}
use Rattle.rows.proofs.store_topic.Goals as goal

pub returns : goal.returns
unfolding cells_of_topic
returns c =
    ap state_of_rows c.write_row.ensures
    ∙ topic_store c.args.cells.now c.requires.0 c.args.k c.args.t c.requires.1
