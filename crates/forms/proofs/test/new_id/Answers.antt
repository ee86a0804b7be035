use Rattle.index.proofs.Kit.{arith, rules, ap, not}
use mathlib.Core.Path.{ap₂, ◌∙◌}
use Rattle.index.proofs.Index.{every-loop, every_more, every_out}
use Rattle.index.proofs.Flags.{failed, passed}
use Rattle.validity.specs.Valid.{apart, new_id}
use Rattle.forms.proofs.test.new_id.Goals as goal

pub loop-k-init : goal.loop-k-init
loop-k-init c = search (every-loop, rules)

pub returns-then-not-apart : goal.returns-then-not-apart
unfolding new_id
returns-then-not-apart c =
    every_out _ _ _ (omega arith)
    (failed (c.apart.ensures ∙ ap₂ apart c.load_id-id.ensures c.load_id.ensures)
    (ap not c.if-not-apart.true))

pub loop-k-preserved : goal.loop-k-preserved
loop-k-preserved c = (
  omega arith,
  every_more _ _ c.loop-k.invariant.1
      (passed (c.apart.ensures ∙ ap₂ apart c.load_id-id.ensures c.load_id.ensures)
      (ap not c.if-not-apart.false)),
)

pub returns : goal.returns
unfolding new_id
returns c = search (every-loop, rules)
