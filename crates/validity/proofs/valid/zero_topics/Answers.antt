use mathlib.Core.Path.{◌≡◌, sym, ◌∙◌}
use native.Mathlib.Omega.{arith}
use borrow.Author.Rules.{rules}
use Rattle.index.proofs.Index.{every-loop, every_more, every_out}
use Rattle.layout.specs.View.{state_of}
use Rattle.validity.specs.Order.{zero_topic_at}
use Rattle.validity.proofs.OrderLaws.{zero_told}
use Rattle.validity.proofs.valid.zero_topics.Goals.{After-zero_topic}
use Rattle.validity.proofs.valid.zero_topics.Goals as goal

-- the record of the topic at hand
told :
    (c : After-zero_topic) →
    c.zero_topic.result ≡ zero_topic_at (state_of c.args.table.now) c.args.slot c.loop-t.t
told c = zero_told _ _ _ _ _ c.zero_topic.ensures c.load_topic.ensures.0

pub loop-t-init : goal.loop-t-init
loop-t-init c = search (every-loop, rules)

pub returns-then-not-zero_topic : goal.returns-then-not-zero_topic
returns-then-not-zero_topic c = every_out _ _ _ (omega arith) (sym (told (goal.at.returns-then-not-zero_topic c).After-zero_topic) ∙ c.if-not-zero_topic.true)

pub loop-t-preserved : goal.loop-t-preserved
loop-t-preserved c = (omega arith, every_more _ _ c.loop-t.invariant.1 (sym (told (goal.at.loop-t-preserved c).After-zero_topic) ∙ c.if-not-zero_topic.false))

pub returns : goal.returns
returns c = search (every-loop, rules)
