use mathlib.Core.Path.{◌∙◌, sym}
use Rattle.layout.proofs.CellLaws.{bits_are}
use Rattle.layout.proofs.load_member.Goals as goal

pub returns : goal.returns
returns c =
    c.bit.ensures.0 ∙ sym (bits_are c.args.cells.now c.args.k c.requires.1).1
