-- `trace_feed::of_third`: the number of the second edition, of the third, or another.
use borrow.Author.Rules.{rules}
use Rattle.trace_feed.proofs.TurnLaws.{third_second, third_third, third_other}
use Rattle.trace_feed.proofs.of_third.Goals as goal

pub returns-in-2 : goal.returns-in-2
returns-in-2 c = third_second _ c.in-2.is

pub returns-in-3 : goal.returns-in-3
returns-in-3 c = third_third _ c.in-3.is

pub returns-in_default : goal.returns-in_default
returns-in_default c = third_other c.args.b (search rules) (search rules)
