use mathlib.Core.Path.{◌∙◌}
use Rattle.layout.proofs.ReadLaws.{member_bit}
use Rattle.layout.proofs.load_members.Goals as goal

pub returns : goal.returns
returns c =
    (c.word.ensures.0, λ k h. c.word.ensures.1 k h ∙ member_bit c.args.cells.now c.args.t k c.requires.1 h)
