use Rattle.layout.proofs.SlotLaws.{end_written}
use Rattle.layout.proofs.write_end.Goals as goal

pub returns : goal.returns
returns c =
    end_written c.args.cells.now c.args.slot c.args.t c.args.end c.requires.0 c.requires.1.0 c.requires.1.1.0
    c.requires.1.1.1
