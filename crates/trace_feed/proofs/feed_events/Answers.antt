-- `trace_feed::feed_events`: the end of the input, or the event at the front, printed.
use borrow.Author.Rules.{rules}
use mathlib.Core.Path.{refl}
use Rattle.trace_feed.proofs.TurnLaws.{events_end, events_took, events_stop, events_full, events_want, events_cut}
use Rattle.trace_feed.proofs.feed_events.Goals as goal

pub returns-then-last-s : goal.returns-then-last-s
returns-then-last-s c = events_end _ _ _ _ _ _ refl c.if-last-s.true

pub returns-then-last : goal.returns-then-last
returns-then-last c =
    events_cut _ _ _ _ _ _ _ _
    c.if-last-s.false
    (search rules) c.replay-done.ensures
    c.in-Short.is _ _ c.if-last.true
    c.put_pair.ensures

pub returns-in-Called : goal.returns-in-Called
returns-in-Called c =
    events_took _ _ _ _ _ _ _ _ c.if-last-s.false (search rules)
    c.replay-done.ensures _ _ c.in-Called.is

pub returns-in-Stopped : goal.returns-in-Stopped
returns-in-Stopped c =
    events_stop _ _ _ _ _ _ _ _ c.if-last-s.false (search rules)
    c.replay-done.ensures _ c.in-Stopped.is

pub returns-else-last : goal.returns-else-last
returns-else-last c =
    events_want _ _ _ _ _ _ _ _ c.if-last-s.false (search rules)
    c.replay-done.ensures c.in-Short.is c.if-last.false

pub returns-in-Full : goal.returns-in-Full
returns-in-Full c =
    events_full _ _ _ _ _ _ _ _ c.if-last-s.false (search rules)
    c.replay-done.ensures c.in-Full.is
