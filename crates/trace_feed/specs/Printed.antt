-- What the trace program prints for a whole input (01, "The trace program"): "sheet (147 numbers), then events", behind the front of its
-- edition.
use Rattle.std.specs.Prelude.{Result, Ok, Err}
use Rattle.params_bytes.specs.declared.ReadError.{ReadError}
use Rattle.params_bytes.specs.declared.ReadError.TheVariants.{Broken, Malformed}
use Rattle.std.specs.Prelude.{ℕ, zero, suc, List, [], ◌∷◌, ◌++◌, length, drop}
use Rattle.records.specs.Records.{State}
use Rattle.params.specs.declared.Params.{Params}
use Rattle.params_bytes.specs.Read.{front_at}
use Rattle.lookup.specs.Fresh.{fresh_state}
use Rattle.rules.specs.Step.{step, action_room}
use Rattle.trace_events.specs.declared.Edition.{Edition}
use Rattle.trace_events.specs.Reading.{Event, event, unknown, malformed, short, event_at}
use Rattle.trace_events.specs.Lines.{pair_line, lines_of}
use Rattle.trace_feed.specs.declared.FrontError.{FrontError}
use Rattle.trace_feed.specs.declared.FrontError.TheVariants.{Other, Cut}
use Rattle.trace_feed.specs.Front.{front_in}

-- ---- the events
-- "Output: answer and action count, then one line an action or score. [..] bad bytes or a name-length over 64 print 10 0, an unknown kind 2
-- 0, and stop." Of the event at the front, and of those behind it, which `rest` prints from the state that it leaves and the place after
-- it. The input may end inside the event: then it is bad bytes.
abbrev pub event_text : (State → ℕ → List ℕ) → State → Event → List ℕ
event_text rest st (event c next) = lines_of (step st c action_room) ++ rest (step st c action_room).state next
event_text rest st unknown = pair_line 2 0
event_text rest st malformed = pair_line 10 0
event_text rest st short = pair_line 10 0

-- "until the end": where no bytes are left nothing is printed
abbrev pub unless_end : List ℕ → List ℕ → List ℕ
unless_end [] text = []
unless_end (b ∷ s) text = text

-- of at most n events from a state on
unfoldable pub text_from : Edition → ℕ → State → List ℕ → List ℕ
text_from e zero st s = []
text_from e (suc n) st s = unless_end s (event_text (λ left next. text_from e n left (drop next s)) st (event_at e s 0))

-- of all events: each takes a byte at least
unfoldable pub events_text : Edition → State → List ℕ → List ℕ
events_text e st s = text_from e (length s) st s

-- ---- the parameters before them
-- "A bad sheet prints its number and place and stops"
abbrev pub text_by : Edition → List ℕ → Params → Result ℕ ReadError → List ℕ
text_by e s params (Ok next) = events_text e (fresh_state params) (drop next s)
text_by e s params (Err (Malformed place)) = pair_line 10 place
text_by e s params (Err (Broken i)) = pair_line 9 i

-- ---- the front before these
-- "another third byte: 9 2, and stop"; an input that ends with the two zero bytes is cut short there
abbrev pub text_behind : List ℕ → Result (Edition × ℕ) FrontError → List ℕ
text_behind s (Ok (e, at)) = text_by e s (front_at s at).params (front_at s at).verdict
text_behind s (Err Other) = pair_line 9 2
text_behind s (Err Cut) = pair_line 10 2

unfoldable pub printed_of : List ℕ → List ℕ
printed_of s = text_behind s (front_in s)
