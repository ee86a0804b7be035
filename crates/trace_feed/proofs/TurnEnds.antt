-- The ends of `turn`: it takes no more bytes than there are, more are wanted only where there are few, and so the window stays in the
-- buffer and has room to read.
-- Assumes nothing.
use Rattle.std.proofs.Common.{Option, Result, Ok, Err}
use Rattle.params_bytes.specs.declared.ReadError.{ReadError}
use Rattle.params_bytes.specs.declared.ReadError.TheVariants.{Broken, Malformed}
use Prim.{Unit, tt}
use Prim.Native.Nat.{ℕ, ◌+◌, ◌-◌, ◌<◌, ◌≤◌}
use mathlib.Core.Path.{◌≡◌, sym, ap, ◌∙◌}
use mathlib.Core.Bool.{Bool, true, not, ◌&&◌, false≢true}
use mathlib.Core.List.{List, []}
use native.Mathlib.Omega.{arith}
use lib.Dec.{eqb}
use lib.ListN.{length}
use lib.Seq.{length-sets}
use Rattle.index.proofs.Index.{both}
use Rattle.index.proofs.Flags.{cond_case}
use Rattle.records.specs.Records.{State}
use Rattle.params.specs.Check.{first_broken}
use Rattle.params_bytes.specs.Read.{front_at}
use Rattle.layout.specs.View.{state_of}
use Rattle.trace_events.specs.declared.Edition.{Edition}
use Rattle.trace_events.specs.Reading.{Event, event, unknown, malformed, short, cut_short, event_at}
use Rattle.trace_events.specs.Lines.{pair_line, line_room}
use Rattle.trace_feed.specs.declared.FrontError.{FrontError}
use Rattle.trace_feed.specs.declared.FrontError.TheVariants.{Other, Cut}
use Rattle.trace_feed.specs.Front.{front_in}
use Rattle.trace_feed.specs.declared.Stage.{Stage}
use Rattle.trace_feed.specs.declared.Stage.TheVariants.{Params, Events, Over}
use Rattle.trace_feed.specs.declared.Fed.{Fed}
use Rattle.trace_feed.specs.declared.Fed.TheVariants.{Took}
use Rattle.trace_feed.specs.declared.Window.{Window}
use Rattle.trace_feed.specs.Turns.{Turn, took, ended, wants, event_turn, events_turn, params_by, params_turn, front_by, front_turn}
use Rattle.trace_feed.specs.Turns.{turn_of, fed_of, text_of, Feeds, pending, Inside, window_by, buffer_by, front_room, turn_in, Turns}
use Rattle.trace_feed.proofs.ReadFront.{cut_few}
use Rattle.trace_feed.proofs.EventFront.{Closes, event_closes}
use Rattle.trace_feed.proofs.ParamsFront.{Verdicts, front_is, Near, front_near}
use Rattle.trace_feed.proofs.WindowLaws.{part_length}

abbrev Most : ℕ → Turn → Type 0
Most len (took e n text st) = n ≤ len
Most len (ended text) = Unit {0}
Most len wants = len < front_room

event_most : (g : Edition) (len : ℕ) (last : Bool) (st : State) (x : Event) → Closes len 0 x → Most len (event_turn g last st x)
event_most g len last st (event c next) h = h
event_most g len last st unknown h = tt
event_most g len last st malformed h = tt
event_most g len last st short h = cond_case (Most len) last (ended (pair_line 10 0)) wants (λ e. tt) (λ e. omega arith)

params_most :
    (g : Edition) (at : ℕ) (last : Bool) (s : List ℕ) (f : Option ℕ) (v : Result ℕ ReadError) →
    Verdicts at (length s) f v →
    at ≤ 3 →
    Most (length s) (params_by g last s (front_at s at).params v)
params_most g at last s f (Ok next) h l = h.1
params_most g at last s f (Err (Malformed p)) h l =
    cond_case (Most (length s)) (not last && cut_short s p) wants (ended (pair_line 10 p))
    (λ e. let c = cut_few s p (both (not last) (cut_short s p) e).1 in omega arith)
    (λ e. tt)
params_most g at last s f (Err (Broken i)) h l = tt

front_most : (last : Bool) (s : List ℕ) (x : Result (Edition × ℕ) FrontError) → Near s x → Most (length s) (front_by last s x)
unfolding params_turn
front_most last s (Ok (g, at)) n =
    params_most g at last s (first_broken (front_at s at).params) (front_at s at).verdict (front_is s at n.1) n.0
front_most last s (Err Other) n = tt
front_most last s (Err Cut) n = cond_case (Most (length s)) last (ended (pair_line 10 2)) wants (λ e. tt) (λ e. omega arith)

turn_most : (stage : Stage) (last : Bool) (st : State) (s : List ℕ) → Most (length s) (turn_of stage last st s)
unfolding front_turn events_turn
turn_most Params last st s = front_most last s (front_in s) (front_near s)
turn_most (Events g) last st s =
    cond_case (Most (length s)) (last && eqb (length s) 0) (ended []) (event_turn g last st (event_at g s 0)) (λ e. tt)
    (λ e. event_most g (length s) last st (event_at g s 0) (event_closes g s 0))
turn_most Over last st s = tt

module _ (w : Window) (buf : List ℕ) (i : Inside w buf) where
  there : length (pending w buf) ≡ w.end - w.at
  there = part_length w.at w.end buf i.low i.high

  inside_by : (t : Turn) → Most (length (pending w buf)) t → Inside (window_by w (fed_of t)) (buffer_by w buf (fed_of t))
  inside_by (took g n text st) m =
      let l = there in let a = i.low in record { low = omega arith; high = i.high }
  inside_by (ended text) m = record { low = i.low; high = i.high }
  inside_by wants m =
      let l = length-sets buf 0 (pending w buf) in
      let h = i.high in
      record { low = omega arith; high = omega arith }

  space_by :
      (t : Turn) →
      Most (length (pending w buf)) t →
      (window_by w (fed_of t)).wants ≡ true →
      front_room ≤ length buf →
      (window_by w (fed_of t)).end < length (buffer_by w buf (fed_of t))
  space_by (took g n text st) m e h = absurd (false≢true e)
  space_by (ended text) m e h = absurd (false≢true e)
  space_by wants m e h = let l = length-sets buf 0 (pending w buf) in let k = there in omega arith

  written_by : (t : Turn) → length (text_of t) ≤ line_room → (window_by w (fed_of t)).written ≤ line_room
  written_by (took g n text st) h = h
  written_by (ended text) h = h
  written_by wants h = omega arith

  takes_by : (t : Turn) (g : Edition) (n k : ℕ) → Most (length (pending w buf)) t → Took g n k ≡ fed_of t → w.at + n ≤ w.end
  takes_by (took d m text st) g n k h e =
      let f : n ≡ m = cc in
      let l = there in
      let a = i.low in
      omega arith
  takes_by (ended text) g n k h e = let z : ◌≡◌ {A = ℕ} 0 1 = cc in absurd (omega arith)
  takes_by wants g n k h e = let z : ◌≡◌ {A = ℕ} 0 1 = cc in absurd (omega arith)

  module _ (table table' out out' : List ℕ) (r : Fed) (f : Feeds (turn_in w table buf) r table table' out out') where
    most_here : Most (length (pending w buf)) (turn_in w table buf)
    most_here = turn_most w.stage (not w.more) (state_of table) (pending w buf)

    pub turn_takes : (g : Edition) (n k : ℕ) → r ≡ Took g n k → w.at + n ≤ w.end
    turn_takes g n k e = takes_by (turn_in w table buf) g n k most_here (sym e ∙ f.answer)

    -- the window and the buffer after an answer
    pub turn_done : (q : Fed) (buf' : List ℕ) → r ≡ q → buf' ≡ buffer_by w buf q → Turns w (window_by w q) table table' buf buf' out out'
    turn_done q buf' e b =
        let t : Turn = turn_in w table buf in
        let a : q ≡ fed_of t = sym e ∙ f.answer in
        let g : buf' ≡ buffer_by w buf (fed_of t) = b ∙ ap (buffer_by w buf) a in
        record {
          window = ap (window_by w) a;
          buffer = g;
          state = f.state;
          bytes = f.bytes;
          room = rw a (written_by t f.room);
          inside = rw (g, a) (inside_by t most_here);
          space = rw (g, a) (space_by t most_here);
        }
