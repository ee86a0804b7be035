-- A recorded list of calls: the events that stand in a trace's bytes, behind its parameters. Lists have the last call first, as in crate
-- history.
use Rattle.std.specs.Prelude.{Result, Ok, Err}
use Rattle.lookup.specs.declared.FreshError.{FreshError}
use Rattle.lookup.specs.declared.FreshError.TheVariants.{Broken}
use Rattle.std.specs.Prelude.{Option, Some, None}
use Rattle.std.specs.Prelude.{ℕ, zero, suc, ◌≤◌, ◌≡◌, Bool, true, false, List, [], ◌∷◌, ◌++◌, length}
use Rattle.std.proofs.lemmas.List.Edits.{sets}
use Rattle.params.specs.declared.Params.{Params}
use Rattle.params.specs.Check.{first_broken}
use Rattle.records.specs.Records.{State}
use Rattle.layout.specs.View.{state_of}
use Rattle.effects.specs.Actions.{numbers_of}
use Rattle.rules.specs.Reply.{Reply}
use Rattle.rules.specs.Step.{step}
use Rattle.answers.specs.Answers.{answer_code}
use Rattle.trace_events.specs.declared.Edition.{Edition}
use Rattle.trace_events.specs.Reading.{Event, event, unknown, malformed, short, event_at}
use Rattle.call_lists.specs.Lists.{Made, fresh, after}
use Rattle.call_lists.specs.Demand3.{Holds}

-- the calls, and the place after their events
pub record Recording : Type 0 where
  pub calls : List Made
  pub place : ℕ

-- a whole event's call joins the list, each with an action list of `room` numbers; anything else ends it
abbrev pub joins : ℕ → (ℕ → List Made → Recording) → ℕ → List Made → Event → Recording
joins room rest at before (event c next) = rest next (record { call = c; room = room } ∷ before)
joins room rest at before unknown = record { calls = before; place = at }
joins room rest at before malformed = record { calls = before; place = at }
joins room rest at before short = record { calls = before; place = at }

-- the calls of at most n events from a place on, after the calls before it
unfoldable pub calls_from : Edition → ℕ → ℕ → List ℕ → ℕ → List Made → Recording
calls_from e room zero s at before = record { calls = before; place = at }
calls_from e room (suc n) s at before = joins room (λ next calls. calls_from e room n s next calls) at before (event_at e s at)

-- as many as there is room to answer; with room for as many as bytes these are all (`All`)
unfoldable pub recording_of : Edition → ℕ → ℕ → List ℕ → Recording
recording_of e room most s = calls_from e room most s 0 []

abbrev pub is_event : Event → Bool
is_event (event c next) = true
is_event unknown = false
is_event malformed = false
is_event short = false

-- where the list ends no whole event is left
abbrev pub All : Type 0
All =
    (e : Edition) (room most : ℕ) (s : List ℕ) → length s ≤ most → is_event (event_at e s (recording_of e room most s).place) ≡ false

-- ---- what the calls are answered
-- the rules' reply to a call, after the calls before it
abbrev pub reply_to : Params → List Made → Made → Reply
reply_to params before c = step (after (fresh params) before) c.call c.room

-- the answers, the first call's first: 01's number in the low byte, how many actions above it
unfoldable pub answers_to : Params → List Made → List ℕ
answers_to params [] = []
answers_to params (c ∷ before) = answers_to params before ++ (answer_code (reply_to params before c).answer ∷ [])

-- the action list that all of them are lent, one after the other: the actions of each stand at its front
unfoldable pub actions_after : Params → List Made → List ℕ → List ℕ
actions_after params [] list = list
actions_after params (c ∷ before) list = sets (actions_after params before list) 0 (numbers_of (reply_to params before c).actions)

-- refused parameters with their place, or the whole list
abbrev pub answer_of : Option ℕ → Recording → Result (ℕ × ℕ) FreshError
answer_of (Some i) q = Err (Broken i)
answer_of None q = Ok (q.place, length q.calls)

abbrev pub left_of : Option ℕ → Params → Recording → State → State
left_of (Some i) params q st = st
left_of None params q st = after (fresh params) q.calls

-- 01's number of an answer, and the values that go with it: 9 with the first index or 200 + the first rule; 0 with the place after the last
-- event and how many calls were made
abbrev pub recorded_number : Result (ℕ × ℕ) FreshError → ℕ
recorded_number (Err (Broken i)) = 9
recorded_number (Ok (place, calls)) = 0

abbrev pub recorded_values : Result (ℕ × ℕ) FreshError → List ℕ
recorded_values (Err (Broken i)) = i ∷ []
recorded_values (Ok (place, calls)) = place ∷ calls ∷ []

-- what a run promises: r is the answer; table, list and told are what stood in the table, in the lent action list and in the lent list of
-- answers, and table', list' and told' are what stands there after it
pub record Runs (e : Edition) (params : Params) (s : List ℕ) (r : Result (ℕ × ℕ) FreshError) (table table' list list' told told' : List ℕ) : Type 0 where
  pub answer : r ≡ answer_of (first_broken params) (recording_of e (length list) (length told) s)
  -- the table holds the rules' state after the whole list
  pub state : state_of table' ≡ left_of (first_broken params) params (recording_of e (length list) (length told) s) (state_of table)
  -- the answers, and the actions of the last calls
  pub answers : first_broken params ≡ None → told' ≡ sets told 0 (answers_to params (recording_of e (length list) (length told) s).calls)
  pub actions : first_broken params ≡ None → list' ≡ actions_after params (recording_of e (length list) (length told) s).calls list
  -- refused parameters change nothing
  pub kept : recorded_number r ≡ 9 → (table' ≡ table) × (list' ≡ list) × (told' ≡ told)
  -- and demand 3 holds of the list
  pub demand3 : first_broken params ≡ None → Holds (fresh params) (recording_of e (length list) (length told) s).calls
