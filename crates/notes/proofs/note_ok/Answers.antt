use Rattle.notes.proofs.NoteLaws.{note_tested}
use Rattle.notes.proofs.note_ok.Goals as goal

pub returns : goal.returns
returns c =
    note_tested c.args.cells.now c.args.slot c.requires.slot c.args.connected c.args.empty c.args.limit
    c.args.ihaves _ _ c.set_ok.ensures c.counts_ok.ensures
