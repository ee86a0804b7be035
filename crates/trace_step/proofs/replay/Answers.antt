-- `trace_step::replay`: no room, or what became of the event's call, printed.
use borrow.Author.Rules.{rules}
use mathlib.Core.Path.{refl}
use Rattle.trace_step.proofs.ReplayLaws.{few_actions, event_called, event_unknown, event_malformed, event_short, replay_event_lem}
use Rattle.trace_step.proofs.ReplayLaws.{replay_full}
use Rattle.trace_step.proofs.replay.Goals as goal

pub returns-then-out-lt-LINE_ROOM : goal.returns-then-out-lt-LINE_ROOM
returns-then-out-lt-LINE_ROOM c = replay_full _ _ _ _ _ c.if-out-lt-LINE_ROOM.true

pub put_reply-requires : goal.put_reply-requires
put_reply-requires c = (
  search rules,
  few_actions _ _ _ _ _ _ c.perform-done.ensures _ _
      c.in-Ok.is,
  search rules,
)

pub returns-in-Ok : goal.returns-in-Ok
returns-in-Ok c =
    let p = c.perform-done in
    replay_event_lem _ _ _ _ _ _ _ _
    c.if-out-lt-LINE_ROOM.false
    (event_called _ _ _ _ _ _ p.ensures _ _ _ _ _ refl c.in-Ok.is
    c.put_reply.ensures)

pub returns-in-Err-Unknown : goal.returns-in-Err-Unknown
returns-in-Err-Unknown c =
    let p = c.perform-done in
    replay_event_lem _ _ _ _ _ _ _ _ c.if-out-lt-LINE_ROOM.false
    (event_unknown _ _ _ _ _ _ p.ensures _ _ _ (search (rules, c.in-Err-Unknown.is, c.in-Err-Unknown.field-0-is))
    c.put_pair.ensures)

pub returns-in-Err-Malformed : goal.returns-in-Err-Malformed
returns-in-Err-Malformed c =
    let p = c.perform-done in
    replay_event_lem _ _ _ _ _ _ _ _ c.if-out-lt-LINE_ROOM.false
    (event_malformed _ _ _ _ _ _ p.ensures _ _ _ (search (rules, c.in-Err-Malformed.is, c.in-Err-Malformed.field-0-is))
    c.put_pair-in-Err-Malformed.ensures)

pub returns-in-Err-CutShort : goal.returns-in-Err-CutShort
returns-in-Err-CutShort c =
    let p = c.perform-done in
    replay_event_lem _ _ _ _ _ _ _ _ c.if-out-lt-LINE_ROOM.false
    (event_short _ _ _ _ _ _ p.ensures _ (search (rules, c.in-Err-CutShort.is, c.in-Err-CutShort.field-0-is)))
