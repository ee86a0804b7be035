-- However the input is cut into pieces, the program's turns print what the whole prints.
use Rattle.std.specs.Prelude.{ℕ, zero, suc, ◌<◌, ◌≤◌, ◌≡◌, ◌⊎◌, Bool, true, false, List, [], ◌++◌, length, take, drop}
use Rattle.records.specs.Records.{State}
use Rattle.layout.specs.View.{state_of}
use Rattle.trace_events.specs.Lines.{line_room}
use Rattle.trace_feed.specs.declared.Stage.{Stage}
use Rattle.trace_feed.specs.declared.Stage.TheVariants.{Params, Events, Over}
use Rattle.trace_feed.specs.declared.Window.{Window}
use Rattle.trace_feed.specs.Printed.{events_text, printed_of}
use Rattle.trace_feed.specs.Turns.{turn_of, taken, text_of, left_by, stage_by, pending, Inside, Fills, start_window, front_room, Turns}

-- what the program prints of the bytes that are not done with, from where it stands
abbrev pub text_after : Stage → State → List ℕ → List ℕ
text_after Params st s = printed_of s
text_after (Events e) st s = events_text e st s
text_after Over st s = []

-- one turn on a window, whatever comes behind it: what it prints, and then what the rest prints from where it stands after it
abbrev pub OneTurn : Type 0
OneTurn =
    (stage : Stage) (last : Bool) (st : State) (window rest : List ℕ) →
    (last ≡ true → rest ≡ []) →
    text_after stage st (window ++ rest)
    ≡ text_of (turn_of stage last st window)
    ++ text_after (stage_by stage (turn_of stage last st window)) (left_by st (turn_of stage last st window))
    (drop (taken (turn_of stage last st window)) window ++ rest)

-- ---- the program: turns, and readings between them
-- where it stands: all bytes that were read and written so far, the window, the table and the buffer
pub record Standing : Type 0 where
  pub given : List ℕ
  pub told : List ℕ
  pub window : Window
  pub table : List ℕ
  pub buffer : List ℕ

pub record Starts (x : Standing) : Type 0 where
  pub given : x.given ≡ []
  pub told : x.told ≡ []
  pub window : x.window ≡ start_window
  pub size : front_room ≤ length x.buffer

-- a turn, whose text is then written
pub record Turned (x y : Standing) : Type 0 where
  pub out : List ℕ
  pub out' : List ℕ
  pub room : line_room ≤ length out
  pub turns : Turns x.window y.window x.table y.table x.buffer y.buffer out out'
  pub given : y.given ≡ x.given
  pub told : y.told ≡ x.told ++ take y.window.written out'

-- bytes are read, where they are wanted
pub record Filled (x y : Standing) : Type 0 where
  pub wanted : x.window.wants ≡ true
  pub fills : Fills x.window y.window x.buffer y.buffer
  pub table : y.table ≡ x.table
  pub given : y.given ≡ x.given ++ take fills.n (drop x.window.end y.buffer)
  pub told : y.told ≡ x.told

-- where it stands after k of these
unfoldable pub Ran : ℕ → Standing → Type 0
Ran zero y = Starts y
Ran (suc k) y = (x : Standing) × Ran k x × (Turned x y ⊎ Filled x y)

-- what is still to come: nothing, once a reading gave nothing
abbrev pub Coming : Standing → List ℕ → Type 0
Coming x rest = x.window.more ≡ false → rest ≡ []

-- "what it prints for a whole input": what was written, and what the rest prints; once the trace is over, all that was written
pub record Printed (x : Standing) : Type 0 where
  pub whole :
      (rest : List ℕ) → Coming x rest →
      printed_of (x.given ++ rest)
      ≡ x.told ++ text_after x.window.stage (state_of x.table) (pending x.window x.buffer ++ rest)
  pub over : (rest : List ℕ) → Coming x rest → x.window.stage ≡ Over → printed_of (x.given ++ rest) ≡ x.told
  pub inside : Inside x.window x.buffer
  -- where more bytes are wanted there is room for them, so that a reading of none is the end of the input
  pub room : x.window.wants ≡ true → x.window.end < length x.buffer

abbrev pub EveryCut : Type 0
EveryCut = (k : ℕ) (x : Standing) → Ran k x → Printed x
