-- `trace_step::call_peer`: each arm is the call of its kind.
use Rattle.trace_events.specs.Reading.{call_of}
use borrow.Author.Rules.{rules, sfits_of}
use Rattle.trace_step.proofs.ReplayLaws.{follows_as, follows_kind, call_10, call_score}
use Rattle.trace_step.proofs.call_peer.Goals as goal

pub returns-in-2 : goal.returns-in-2
unfolding call_of
returns-in-2 c = search follows_kind

pub returns-in-7 : goal.returns-in-7
unfolding call_of
returns-in-7 c = search follows_kind

pub returns-in-8 : goal.returns-in-8
unfolding call_of
returns-in-8 c = search follows_kind

pub returns-in-9 : goal.returns-in-9
unfolding call_of
returns-in-9 c = search follows_kind

pub returns-in-10 : goal.returns-in-10
returns-in-10 c =
    follows_as _ _ _ _ _ _ _
    (call_10 c.args.kind c.args.v.now _ (sfits_of c.number_of.type_inv)
    c.number_of.ensures c.in-10.is)
    c.rate.ensures

pub returns-in-12 : goal.returns-in-12
unfolding call_of
returns-in-12 c = search follows_kind

pub returns-in_default : goal.returns-in_default
returns-in_default c =
    follows_as _ _ _ _ _ _ _
    (call_score c.args.kind c.args.v.now (search rules) c.requires.1.0 c.requires.1.1.0 c.requires.1.1.1.0
    c.requires.1.1.1.1.0 (search rules) (search rules) (search rules) (search rules) c.requires.1.1.1.1.1 (search rules))
    c.score.ensures
