-- `answers::why_or` meets its contract. Assumes nothing.
use mathlib.Core.Path.{◌∙◌}
use Rattle.answers.proofs.AnswerLaws.{score_is, no_score}
use Rattle.answers.proofs.why_or.Goals as goal

pub returns-in-Scored : goal.returns-in-Scored
returns-in-Scored c = c.why_numbers.ensures ∙ score_is _ _ _ c.in-Scored.is

pub returns-in_default : goal.returns-in_default
returns-in_default c = no_score c.args.a _ c.in_default.not-Scored
