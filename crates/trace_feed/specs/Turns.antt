-- One turn of the trace program: what it makes of the bytes that are there, at the front of what is left of the input. `last`: no others
-- come.
use Rattle.std.specs.Prelude.{Result, Ok, Err}
use Rattle.params_bytes.specs.declared.ReadError.{ReadError}
use Rattle.params_bytes.specs.declared.ReadError.TheVariants.{Broken, Malformed}
use Rattle.std.specs.Prelude.{ℕ, ◌+◌, ◌-◌, ◌<◌, ◌≤◌, ◌≡◌, Bool, true, false, not, cond, ◌&&◌, List, [], eqb, ltb, length, take, drop}
use Rattle.std.proofs.lemmas.List.Edits.{sets}
use Rattle.records.specs.Records.{State}
use Rattle.params.specs.declared.Params.{Params as Parameters}
use Rattle.params_bytes.specs.Read.{front_at}
use Rattle.layout.specs.View.{state_of}
use Rattle.lookup.specs.Fresh.{fresh_state}
use Rattle.rules.specs.Step.{step, action_room}
use Rattle.trace_events.specs.declared.Edition.{Edition}
use Rattle.trace_events.specs.Reading.{Event, event, unknown, malformed, short, cut_short, event_at}
use Rattle.trace_events.specs.Lines.{pair_line, lines_of, line_room}
use Rattle.trace_feed.specs.declared.FrontError.{FrontError}
use Rattle.trace_feed.specs.declared.FrontError.TheVariants.{Other, Cut}
use Rattle.trace_feed.specs.Front.{front_in}
use Rattle.trace_feed.specs.declared.Stage.{Stage}
use Rattle.trace_feed.specs.declared.Stage.TheVariants.{Params, Events, Over}
use Rattle.trace_feed.specs.declared.Fed.{Fed}
use Rattle.trace_feed.specs.declared.Fed.TheVariants.{Took, Ended, Wants}
use Rattle.trace_feed.specs.declared.Window.{Window}

-- ---- what a turn comes to
pub data Turn : Type 0 where
  -- the first bytes are done with: the edition of the events that follow, how many bytes, what they print, and the state that they leave
  took : Edition → ℕ → List ℕ → State → Turn
  -- the trace is over, after this text
  ended : List ℕ → Turn
  -- what stands at the front is not whole: nothing is done before more bytes are there
  wants : Turn

-- of bytes that the input may end with
abbrev pub cut_turn : Bool → List ℕ → Turn
cut_turn last text = cond last (ended text) wants

abbrev pub event_turn : Edition → Bool → State → Event → Turn
event_turn e last st (event c next) = took e next (lines_of (step st c action_room)) (step st c action_room).state
event_turn e last st unknown = ended (pair_line 2 0)
event_turn e last st malformed = ended (pair_line 10 0)
event_turn e last st short = cut_turn last (pair_line 10 0)

unfoldable pub events_turn : Edition → Bool → State → List ℕ → Turn
events_turn e last st s = cond (last && eqb (length s) 0) (ended []) (event_turn e last st (event_at e s 0))

abbrev pub params_by : Edition → Bool → List ℕ → Parameters → Result ℕ ReadError → Turn
params_by e last s params (Ok next) = took e next [] (fresh_state params)
params_by e last s params (Err (Malformed place)) = cond (not last && cut_short s place) wants (ended (pair_line 10 place))
params_by e last s params (Err (Broken i)) = ended (pair_line 9 i)

-- the parameters at a place
unfoldable pub params_turn : Edition → ℕ → Bool → List ℕ → Turn
params_turn e at last s = params_by e last s (front_at s at).params (front_at s at).verdict

abbrev pub front_by : Bool → List ℕ → Result (Edition × ℕ) FrontError → Turn
front_by last s (Ok (e, at)) = params_turn e at last s
front_by last s (Err Other) = ended (pair_line 9 2)
front_by last s (Err Cut) = cut_turn last (pair_line 10 2)

-- the front of the trace, and the parameters behind it
unfoldable pub front_turn : Bool → List ℕ → Turn
front_turn last s = front_by last s (front_in s)

abbrev pub turn_of : Stage → Bool → State → List ℕ → Turn
turn_of Params last st s = front_turn last s
turn_of (Events e) last st s = events_turn e last st s
turn_of Over last st s = ended []

-- ---- its parts
abbrev pub fed_of : Turn → Fed
fed_of (took e n text st) = Took e n (length text)
fed_of (ended text) = Ended (length text)
fed_of wants = Wants

abbrev pub taken : Turn → ℕ
taken (took e n text st) = n
taken (ended text) = 0
taken wants = 0

abbrev pub text_of : Turn → List ℕ
text_of (took e n text st) = text
text_of (ended text) = text
text_of wants = []

abbrev pub left_by : State → Turn → State
left_by st (took e n text left) = left
left_by st (ended text) = st
left_by st wants = st

abbrev pub stage_by : Stage → Turn → Stage
stage_by stage (took e n text st) = Events e
stage_by stage (ended text) = Over
stage_by stage wants = stage

-- ---- what `feed` promises: r is the answer, table' and out' are what stands in the table and in the buffer after it
pub record Feeds (t : Turn) (r : Fed) (table table' out out' : List ℕ) : Type 0 where
  pub answer : r ≡ fed_of t
  pub state : state_of table' ≡ left_by (state_of table) t
  pub bytes : out' ≡ sets out 0 (text_of t)
  -- so much room is enough
  pub room : length (text_of t) ≤ line_room

-- ---- the window: the bytes of a buffer from `at` to `end` are not done with
abbrev pub pending : Window → List ℕ → List ℕ
pending w buf = take (w.end - w.at) (drop w.at buf)

pub record Inside (w : Window) (buf : List ℕ) : Type 0 where
  pub low : w.at ≤ w.end
  pub high : w.end ≤ length buf

-- the window after a turn: where more bytes are wanted, those that are there stand at the buffer's front
abbrev pub window_by : Window → Fed → Window
window_by w (Took e n k) = record { at = w.at + n; end = w.end; more = w.more; wants = false; stage = Events e; written = k }
window_by w (Ended k) = record { at = w.at; end = w.end; more = w.more; wants = false; stage = Over; written = k }
window_by w Wants = record { at = 0; end = w.end - w.at; more = w.more; wants = true; stage = w.stage; written = 0 }

abbrev pub buffer_by : Window → List ℕ → Fed → List ℕ
buffer_by w buf (Took e n k) = buf
buffer_by w buf (Ended k) = buf
buffer_by w buf Wants = sets buf 0 (pending w buf)

-- the window after n bytes were read behind its end; none are read at the end of the input
abbrev pub filled_by : Window → ℕ → Window
filled_by w n = record { at = w.at; end = w.end + n; more = ltb 0 n; wants = false; stage = w.stage; written = 0 }

-- what a reading behind the window's end does: n bytes more, and those before them stay
pub record Fills (w w' : Window) (buf buf' : List ℕ) : Type 0 where
  pub n : ℕ
  pub fits : w.end + n ≤ length buf
  pub size : length buf' ≡ length buf
  pub front : take w.end buf' ≡ take w.end buf
  pub window : w' ≡ filled_by w n

-- where bytes are wanted; else nothing is done
pub record Refills (w w' : Window) (buf buf' : List ℕ) : Type 0 where
  pub wanted : w.wants ≡ true → Fills w w' buf buf'
  pub idle : w.wants ≡ false → (w' ≡ w) × (buf' ≡ buf)

-- before the first byte
abbrev pub start_window : Window
start_window = record { at = 0; end = 0; more = true; wants = false; stage = Params; written = 0 }

-- how many bytes can be there and still not be whole: of a heartbeat, its kind, three numbers and all of its permutation but the last, of
-- ten bytes each, and nine of that
abbrev pub front_room : ℕ
front_room = 2610

-- ---- what `turn` promises
abbrev pub turn_in : Window → List ℕ → List ℕ → Turn
turn_in w table buf = turn_of w.stage (not w.more) (state_of table) (pending w buf)

pub record Turns (w w' : Window) (table table' buf buf' out out' : List ℕ) : Type 0 where
  pub window : w' ≡ window_by w (fed_of (turn_in w table buf))
  pub buffer : buf' ≡ buffer_by w buf (fed_of (turn_in w table buf))
  pub state : state_of table' ≡ left_by (state_of table) (turn_in w table buf)
  pub bytes : out' ≡ sets out 0 (text_of (turn_in w table buf))
  -- the text fits, the window stays in the buffer, and there is room to read more
  pub room : w'.written ≤ line_room
  pub inside : Inside w' buf'
  pub space : w'.wants ≡ true → front_room ≤ length buf → w'.end < length buf'
