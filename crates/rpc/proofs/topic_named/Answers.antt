use Rattle.index.proofs.Kit.{sym, ◌∙◌, rules, arith, first_none, first_more}
use Rattle.index.proofs.Flags.{flags}
use Rattle.rpc.proofs.TopicLaws.{topic_none, topic_hit, topic_unknown}
use Rattle.rpc.proofs.topic_named.Goals as goal

pub returns-then-size-eq0 : goal.returns-then-size-eq0
returns-then-size-eq0 c = search topic_none

pub loop-k-init : goal.loop-k-init
loop-k-init c = (omega arith, first_none _)

pub is_named-requires : goal.is_named-requires
is_named-requires c = (c.requires.0, (omega arith, omega arith))

pub returns-then-is_named : goal.returns-then-is_named
returns-then-is_named c = search (topic_hit, flags)

pub loop-k-preserved : goal.loop-k-preserved
loop-k-preserved c = (omega arith, first_more _ _ c.loop-k.invariant.1 (sym c.is_named.ensures ∙ c.if-is_named.false))

pub returns : goal.returns
returns c = search (topic_unknown, rules)
