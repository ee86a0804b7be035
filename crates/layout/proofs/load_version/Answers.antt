use mathlib.Core.Path.{◌∙◌}
use Rattle.layout.proofs.ReadLaws.{version_bit}
use Rattle.layout.proofs.load_version.Goals as goal

pub returns : goal.returns
returns c =
    (c.word.ensures.0, λ k h. c.word.ensures.1 k h ∙ version_bit c.args.cells.now k h)
