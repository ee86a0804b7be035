use Prim.Native.Nat.{ℕ, ◌≤◌}
use mathlib.Core.Path.{◌≡◌, sym, ap, subst, ◌∙◌}
use native.Mathlib.Omega.{arith}
use borrow.Author.Rules.{rules}
use Rattle.index.proofs.Index.{every-loop, every_more, every_out}
use Rattle.layout.specs.View.{state_of}
use Rattle.validity.specs.Valid.{max_time, topic_ok_at}
use Rattle.validity.specs.Order.{small_ok}
use Rattle.validity.proofs.OrderLaws.{topic_told}
use Rattle.validity.proofs.valid.small_topics.Goals.{After-small_topic_ok}
use Rattle.validity.proofs.valid.small_topics.Goals as goal

-- the record of the topic at hand
told :
    (c : After-small_topic_ok) →
    c.small_topic_ok.result ≡ topic_ok_at (state_of c.args.table.now) c.args.slot 1 c.args.explicit c.loop-t.t
told c =
    topic_told _ _ _ _ _ _ _ _ _ _ c.small_topic_ok.ensures c.load_joined-joined.ensures c.load_clock-clock.ensures
    (c.requires.1.1.0.p2 _ (omega arith))
    (c.requires.1.1.0.p3 _ (omega arith))
    c.load_topic-r.ensures.0

pub loop-t-init : goal.loop-t-init
loop-t-init c = search (every-loop, rules)

pub small_topic_ok-requires : goal.small_topic_ok-requires
small_topic_ok-requires c = (
  ap small_ok c.load_topic-r.ensures.0 ∙ c.requires.1.1.1.0.topics _ (omega arith),
  subst (λ (n : ℕ). n ≤ max_time) (sym c.load_clock-clock.ensures) c.requires.1.1.1.1,
)

pub returns-then-not-small_topic_ok : goal.returns-then-not-small_topic_ok
returns-then-not-small_topic_ok c =
    every_out _ _ _ (omega arith) (sym (told (goal.at.returns-then-not-small_topic_ok c).After-small_topic_ok) ∙ c.if-not-small_topic_ok.true)

pub loop-t-preserved : goal.loop-t-preserved
loop-t-preserved c = (
  omega arith,
  every_more _ _ c.loop-t.invariant.1 (sym (told (goal.at.loop-t-preserved c).After-small_topic_ok) ∙ c.if-not-small_topic_ok.false),
)

pub returns : goal.returns
returns c = search (every-loop, rules)
