use mathlib.Core.Path.{◌∙◌}
use Rattle.layout.proofs.ReadLaws.{subscribed_bit}
use Rattle.layout.proofs.load_subscribed.Goals as goal

pub returns : goal.returns
returns c =
    (c.word.ensures.0, λ k h. c.word.ensures.1 k h ∙ subscribed_bit c.args.cells.now c.args.t k c.requires.1 h)
