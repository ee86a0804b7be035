-- `trace_step::unread`: short, or malformed.
use Rattle.trace_step.specs.declared.EventError.TheVariants.{CutShort, Malformed}
use mathlib.Core.Bool.{Bool, cond}
use mathlib.Core.Path.{sym, ap, ◌∙◌}
use Rattle.trace_step.proofs.unread.Goals as goal

pub returns-then-cut_short : goal.returns-then-cut_short
returns-then-cut_short c = ap (λ (b : Bool). cond b CutShort Malformed) (sym c.if-cut_short.true ∙ c.cut_short.ensures)

pub returns : goal.returns
returns c = ap (λ (b : Bool). cond b CutShort Malformed) (sym c.if-cut_short.false ∙ c.cut_short.ensures)
