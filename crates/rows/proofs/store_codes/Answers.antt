use mathlib.Core.Path.{◌∙◌, ap}
use Rattle.rows.specs.View.{state_of_rows}
use Rattle.rows.proofs.ViewLaws.{codes_store}
use Rattle.rows.proofs.store_codes.Goals as goal

pub returns : goal.returns
returns c =
    ap state_of_rows c.write_row.ensures
    ∙ codes_store c.args.cells.now c.requires.0 c.args.codes.now c.requires.1
