-- `score::topic::part3` meets its contract. Assumes nothing.
use borrow.Author.Rules.{rules}
use mathlib.Core.Path.{ap, ◌∙◌}
use Rattle.score.specs.Parts.{square}
use Rattle.score.proofs.PartLaws.{part3_short, part3_none}
use Rattle.score.proofs.topic.part3.Goals as goal

pub returns-then-r-t : goal.returns-then-r-t
returns-then-r-t c = (
  c.squared.ensures.0 ∙ ap square c.saturating_sub.ensures ∙ part3_short _ _ c.if-r-t.true,
  c.squared.ensures.1,
)

pub returns-else-r-t : goal.returns-else-r-t
returns-else-r-t c = (part3_none _ _ c.if-r-t.false, search rules)
