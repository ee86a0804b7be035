-- `trace_feed::turn`: what `feed` came to on the window's bytes, and the window after it.
use borrow.Author.Rules.{rules}
use mathlib.Core.Path.{refl}
use Rattle.trace_feed.proofs.TurnEnds.{turn_takes, turn_done}
use Rattle.trace_feed.proofs.turn.Goals as goal

pub overflow_add-result : goal.overflow_add-result
overflow_add-result c =
    let h = turn_takes _ _ c.requires.0 _ _ _
    _ _ c.feed-fed.ensures _ _ _ c.in-Took.is in
    search rules

pub returns-in-Took : goal.returns-in-Took
returns-in-Took c = turn_done _ _ c.requires.0 _ _ _
    _ _ c.feed-fed.ensures _ _ c.in-Took.is refl

pub returns-in-Ended : goal.returns-in-Ended
returns-in-Ended c =
    turn_done _ _ c.requires.0 _ _ _ _ _
    c.feed-fed.ensures _ _ c.in-Ended.is refl

pub returns-in-Wants : goal.returns-in-Wants
returns-in-Wants c =
    turn_done _ _
    c.requires.0
    _ _ _ _ _ c.feed-fed.ensures _ _
    c.in-Wants.is c.shift.ensures
