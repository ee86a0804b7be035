use Rattle.notes.proofs.NoteLaws.{set_over, set_tested}
use Rattle.notes.proofs.set_ok.Goals as goal

pub returns-then-n : goal.returns-then-n
returns-then-n c =
    set_over c.args.cells.now c.args.slot c.requires.slot c.args.connected c.if-n.true

pub returns : goal.returns
returns c =
    set_tested c.args.cells.now c.args.slot c.requires.slot c.args.connected _ _ _ c.if-n.false
    c.row_at-at.ensures.0 c.rises.ensures c.ages_ok.ensures
