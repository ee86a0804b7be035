-- What one event of a trace does to the table, to the lent action list and to the lent buffer.
use Rattle.std.specs.Prelude.{Result, Ok, Err}
use Rattle.trace_step.specs.declared.EventError.{EventError}
use Rattle.rules.specs.declared.Answer.{Answer}
use Rattle.trace_step.specs.declared.EventError.TheVariants.{CutShort, Malformed, Unknown}
use Rattle.std.specs.Prelude.{ℕ, ◌≤◌, ◌≡◌, cond, List, [], ltb, length}
use Rattle.std.proofs.lemmas.List.Edits.{sets}
use Rattle.records.specs.Records.{State}
use Rattle.layout.specs.View.{state_of}
use Rattle.effects.specs.Actions.{Action, numbers_of}
use Rattle.rules.specs.Reply.{Reply, number_of}
use Rattle.rules.specs.Step.{step, action_room}
use Rattle.trace_step.specs.declared.Replayed.{Replayed}
use Rattle.trace_step.specs.declared.Replayed.TheVariants.{Called, Stopped, Short, Full}
use Rattle.trace_events.specs.declared.Edition.{Edition}
use Rattle.trace_events.specs.Reading.{Event, event, unknown, malformed, short, event_at}
use Rattle.trace_events.specs.Lines.{pair_line, lines_of, line_room}

-- ---- the event's call
-- the answer, the state that is left, and the actions for the lent list
pub record Performance : Type 0 where
  pub answer : Result (ℕ × Answer) EventError
  pub state : State
  pub actions : List Action

-- the rules' reply to the event's call
abbrev pub of_reply : Reply → ℕ → Performance
of_reply o next = record { answer = Ok (next, o.answer); state = o.state; actions = o.actions }

-- no call is made
abbrev pub idle : State → Result (ℕ × Answer) EventError → Performance
idle st r = record { answer = r; state = st; actions = [] }

unfoldable pub perform_event : State → ℕ → Event → Performance
perform_event st room (event c next) = of_reply (step st c room) next
perform_event st room unknown = idle st (Err Unknown)
perform_event st room malformed = idle st (Err Malformed)
perform_event st room short = idle st (Err CutShort)

-- 01's number of an answer: "bad bytes or a name-length over 64 print 10 0, an unknown kind 2 0"; an event that is cut short is bad where
-- no bytes follow
abbrev pub performed_number : Result (ℕ × Answer) EventError → ℕ
performed_number (Ok (next, a)) = number_of a
performed_number (Err Unknown) = 2
performed_number (Err Malformed) = 10
performed_number (Err CutShort) = 10

-- what is promised: r is the answer, list is what stood in the lent list, table' and list' are what stands in the table and in the list
-- after it
pub record Performs (o : Performance) (r : Result (ℕ × Answer) EventError) (table' list list' : List ℕ) : Type 0 where
  pub answer : r ≡ o.answer
  pub state : state_of table' ≡ o.state
  pub actions : list' ≡ sets list 0 (numbers_of o.actions)

-- ---- the same, printed
-- the answer, the state that is left, and the buffer's bytes
pub record Outcome : Type 0 where
  pub answer : Replayed
  pub state : State
  pub bytes : List ℕ

-- an event's reply, printed at the start of the buffer
abbrev pub printed : Reply → ℕ → List ℕ → Outcome
printed o next out =
    record { answer = Called next (length (lines_of o)); state = o.state; bytes = sets out 0 (lines_of o) }

-- "print [..] and stop"
abbrev pub stopped : State → ℕ → List ℕ → Outcome
stopped st n out =
    record { answer = Stopped (length (pair_line n 0)); state = st; bytes = sets out 0 (pair_line n 0) }

abbrev pub replay_event : State → List ℕ → Event → Outcome
replay_event st out (event c next) = printed (step st c action_room) next out
replay_event st out unknown = stopped st (performed_number (Err Unknown)) out
replay_event st out malformed = stopped st (performed_number (Err Malformed)) out
replay_event st out short = record { answer = Short; state = st; bytes = out }

unfoldable pub replay_of : Edition → State → List ℕ → ℕ → List ℕ → Outcome
replay_of e st s at out =
    cond (ltb (length out) line_room)
    (record { answer = Full; state = st; bytes = out })
    (replay_event st out (event_at e s at))

-- how many bytes were printed
abbrev pub printed_by : Replayed → ℕ
printed_by (Called next n) = n
printed_by (Stopped n) = n
printed_by Short = 0
printed_by Full = 0

-- what a replay promises: r is the answer, table' and out' are what stands in the table and in the buffer after it
pub record Replays (o : Outcome) (r : Replayed) (table' out' : List ℕ) : Type 0 where
  pub answer : r ≡ o.answer
  pub state : state_of table' ≡ o.state
  pub bytes : out' ≡ o.bytes
  -- so much room is enough
  pub room : printed_by r ≤ line_room
