-- However the input is cut: by induction on the turns and readings, from what one turn prints (`one_turn`) and where the window's bytes
-- stand. Assumes nothing.
use Rattle.std.proofs.Common.{Result, Ok, Err}
use Rattle.params_bytes.specs.declared.ReadError.{ReadError}
use Rattle.params_bytes.specs.declared.ReadError.TheVariants.{Broken, Malformed}
use Prim.Native.Nat.{ℕ, zero, suc, ◌<◌, ◌≤◌}
use mathlib.Core.Path.{◌≡◌, refl, sym, ap, ap₂, ◌∙◌}
use mathlib.Core.Logic.{◌⊎◌, inl, inr}
use mathlib.Core.Bool.{Bool, true, false, not, false≢true}
use mathlib.Core.List.{List, [], ◌++◌, append-nil, append_assoc}
use native.Mathlib.Omega.{arith}
use borrow.Author.Tests.{not-true}
use lib.Dec.{eqb}
use lib.ListN.{length, take, drop}
use lib.Seq.{length-sets}
use Rattle.index.proofs.Flags.{by_test, cond_case}
use Rattle.records.specs.Records.{State}
use Rattle.layout.specs.View.{state_of}
use Rattle.trace_events.specs.declared.Edition.{Edition}
use Rattle.trace_events.specs.Reading.{Event, event, unknown, malformed, short, event_at}
use Rattle.params_bytes.specs.Read.{front_at}
use Rattle.trace_feed.specs.declared.Stage.{Stage}
use Rattle.trace_feed.specs.declared.Stage.TheVariants.{Params, Events, Over}
use Rattle.trace_feed.specs.declared.Window.{Window}
use Rattle.trace_feed.specs.declared.FrontError.{FrontError}
use Rattle.trace_feed.specs.declared.FrontError.TheVariants.{Other, Cut}
use Rattle.trace_feed.specs.Front.{front_in}
use Rattle.trace_feed.specs.Printed.{printed_of}
use Rattle.trace_feed.specs.Turns.{Turn, took, ended, wants, event_turn, events_turn, params_by, params_turn, front_by, front_turn}
use Rattle.trace_feed.specs.Turns.{turn_of, fed_of, taken, text_of, left_by, stage_by, pending, Inside, window_by, buffer_by, front_room}
use Rattle.trace_feed.specs.Turns.{turn_in}
use Rattle.trace_feed.specs.Cuts.{text_after, Standing, Starts, Turned, Filled, Ran, Coming, EveryCut}
use Rattle.trace_feed.proofs.TextLaws.{one_turn}
use Rattle.trace_feed.proofs.WindowLaws.{front_of, part_taken, part_moved, part_filled}

-- ---- no turn wants more bytes where none come
abbrev asks : Turn → Bool
asks (took g n text st) = false
asks (ended text) = false
asks wants = true

event_asks : (g : Edition) (st : State) (x : Event) → asks (event_turn g true st x) ≡ false
event_asks g st (event c next) = refl
event_asks g st unknown = refl
event_asks g st malformed = refl
event_asks g st short = refl

params_ask : (g : Edition) (at : ℕ) (s : List ℕ) (v : Result ℕ ReadError) → asks (params_by g true s (front_at s at).params v) ≡ false
params_ask g at s (Ok next) = refl
params_ask g at s (Err (Malformed place)) = refl
params_ask g at s (Err (Broken i)) = refl

front_asks : (s : List ℕ) (x : Result (Edition × ℕ) FrontError) → asks (front_by true s x) ≡ false
unfolding params_turn
front_asks s (Ok (g, at)) = params_ask g at s (front_at s at).verdict
front_asks s (Err Other) = refl
front_asks s (Err Cut) = refl

asks_not : (stage : Stage) (st : State) (s : List ℕ) → asks (turn_of stage true st s) ≡ false
unfolding front_turn events_turn
asks_not Params st s = front_asks s (front_in s)
asks_not (Events g) st s =
    cond_case (λ (t : Turn). asks t ≡ false) (eqb (length s) 0) (ended []) (event_turn g true st (event_at g s 0)) (λ e. refl)
    (λ e. event_asks g st (event_at g s 0))
asks_not Over st s = refl

-- ---- what a turn leaves of the window
module _ (w : Window) (buf : List ℕ) (i : Inside w buf) where
  stage_is : (t : Turn) → (window_by w (fed_of t)).stage ≡ stage_by w.stage t
  stage_is (took g n text st) = refl
  stage_is (ended text) = refl
  stage_is wants = refl

  written_is : (t : Turn) → (window_by w (fed_of t)).written ≡ length (text_of t)
  written_is (took g n text st) = refl
  written_is (ended text) = refl
  written_is wants = refl

  more_is : (t : Turn) → (window_by w (fed_of t)).more ≡ w.more
  more_is (took g n text st) = refl
  more_is (ended text) = refl
  more_is wants = refl

  wants_is : (t : Turn) → (window_by w (fed_of t)).wants ≡ asks t
  wants_is (took g n text st) = refl
  wants_is (ended text) = refl
  wants_is wants = refl

  size_is : (t : Turn) → length (buffer_by w buf (fed_of t)) ≡ length buf
  size_is (took g n text st) = refl
  size_is (ended text) = refl
  size_is wants = length-sets buf 0 (pending w buf)

  pending_is : (t : Turn) → pending (window_by w (fed_of t)) (buffer_by w buf (fed_of t)) ≡ drop (taken t) (pending w buf)
  pending_is (took g n text st) = part_taken w.at w.end buf i.low i.high n
  pending_is (ended text) = refl
  pending_is wants = part_moved w.at w.end buf i.low i.high

-- ---- where the program stands
record Stands (x : Standing) : Type 0 where
  whole :
      (rest : List ℕ) → Coming x rest →
      printed_of (x.given ++ rest)
      ≡ x.told ++ text_after x.window.stage (state_of x.table) (pending x.window x.buffer ++ rest)
  inside : Inside x.window x.buffer
  size : front_room ≤ length x.buffer
  room : x.window.wants ≡ true → x.window.end < length x.buffer
  -- bytes are wanted only where more may come
  hungry : x.window.wants ≡ true → x.window.more ≡ true

stands_first : (x : Standing) → Starts x → Stands x
stands_first x s =
    let w = s.window in
    record {
      whole = λ rest c. rw (s.given, s.told, w);
      inside = rw w (record { low = omega arith; high = omega arith });
      size = s.size;
      room = λ e. absurd (false≢true (sym (ap (λ (v : Window). v.wants) w) ∙ e));
      hungry = λ e. absurd (false≢true (sym (ap (λ (v : Window). v.wants) w) ∙ e));
    }

module _ (x y : Standing) (s : Stands x) where
  module _ (m : Turned x y) where
    abbrev t : Turn
    t = turn_in x.window x.table x.buffer

    w_is : y.window ≡ window_by x.window (fed_of t)
    w_is = m.turns.window

    written : take y.window.written m.out' ≡ text_of t
    written =
        let e : y.window.written ≡ length (text_of t) =
        ap (λ (v : Window). v.written) w_is ∙ written_is x.window x.buffer s.inside t in
        let r = m.turns.room in
        let l = m.room in
        ap₂ take e m.turns.bytes ∙ front_of m.out (text_of t) (omega arith)

    left :
        (rest : List ℕ) →
        text_after y.window.stage (state_of y.table) (pending y.window y.buffer ++ rest)
        ≡ text_after (stage_by x.window.stage t) (left_by (state_of x.table) t)
        (drop (taken t) (pending x.window x.buffer) ++ rest)
    left rest =
        let a : y.window.stage ≡ stage_by x.window.stage t =
        ap (λ (v : Window). v.stage) w_is ∙ stage_is x.window x.buffer s.inside t in
        let p : pending y.window y.buffer ≡ drop (taken t) (pending x.window x.buffer) =
        ap₂ pending w_is m.turns.buffer ∙ pending_is x.window x.buffer s.inside t in
        rw (a, p, m.turns.state)

    more_same : y.window.more ≡ x.window.more
    more_same = ap (λ (v : Window). v.more) w_is ∙ more_is x.window x.buffer s.inside t

    stands_turned : Stands y
    stands_turned =
        record {
          whole =
              λ rest c.
              let c' : Coming x rest = λ e. c (more_same ∙ e) in
              let o = one_turn x.window.stage (not x.window.more) (state_of x.table) (pending x.window x.buffer) rest
              (λ e. c' (not-true x.window.more e)) in
              ap (λ (g : List ℕ). printed_of (g ++ rest)) m.given
              ∙ s.whole rest c'
              ∙ ap (λ (l : List ℕ). x.told ++ l) (o ∙ ap (λ (l : List ℕ). text_of t ++ l) (sym (left rest)))
              ∙ sym (append_assoc x.told (text_of t)
              (text_after y.window.stage (state_of y.table) (pending y.window y.buffer ++ rest)))
              ∙ ap (λ (l : List ℕ). l ++ text_after y.window.stage (state_of y.table) (pending y.window y.buffer ++ rest))
              (ap (λ (l : List ℕ). x.told ++ l) (sym written) ∙ sym m.told);
          inside = m.turns.inside;
          size = let e = ap length m.turns.buffer ∙ size_is x.window x.buffer s.inside t in let f = s.size in omega arith;
          room = λ e. m.turns.space e s.size;
          hungry =
              λ e.
              by_test (y.window.more ≡ true) x.window.more
              (λ k. more_same ∙ k)
              (λ k.
              let a : asks t ≡ true = sym (wants_is x.window x.buffer s.inside t) ∙ sym (ap (λ (v : Window). v.wants) w_is) ∙ e in
              let b : asks t ≡ false = rw k (asks_not x.window.stage (state_of x.table) (pending x.window x.buffer)) in
              absurd (false≢true (sym b ∙ a)));
        }

  module _ (m : Filled x y) where
    filled_part : pending y.window y.buffer
        ≡ pending x.window x.buffer ++ take m.fills.n (drop x.window.end y.buffer)
    filled_part =
        ap (λ (v : Window). pending v y.buffer) m.fills.window
        ∙ part_filled x.window.at x.window.end x.buffer s.inside.low s.inside.high m.fills.n y.buffer
        m.fills.front

    abbrev read : List ℕ
    read = take m.fills.n (drop x.window.end y.buffer)

    stands_filled : Stands y
    stands_filled =
        let h = s.inside.high in
        let l = s.inside.low in
        let z = m.fills.size in
        let f = m.fills.fits in
        let g = s.size in
        let no : y.window.wants ≡ false = ap (λ (v : Window). v.wants) m.fills.window in
        record {
          whole =
              λ rest c.
              let c' : Coming x (read ++ rest) = λ e. absurd (false≢true (sym e ∙ s.hungry m.wanted)) in
              ap (λ (k : List ℕ). printed_of (k ++ rest)) m.given
              ∙ ap printed_of (append_assoc x.given read rest)
              ∙ s.whole (read ++ rest) c'
              ∙ rw (m.told, m.table, ap (λ (v : Window). v.stage) m.fills.window)
              (ap (λ (k : List ℕ). x.told ++ text_after x.window.stage (state_of x.table) k)
              (sym (append_assoc (pending x.window x.buffer) read rest) ∙ ap (λ (k : List ℕ). k ++ rest) (sym filled_part)));
          inside =
              rw m.fills.window (record { low = omega arith; high = omega arith });
          size = omega arith;
          room = λ e. absurd (false≢true (sym no ∙ e));
          hungry = λ e. absurd (false≢true (sym no ∙ e));
        }

stands_by : (x y : Standing) → Stands x → Turned x y ⊎ Filled x y → Stands y
stands_by x y s (inl m) = stands_turned x y s m
stands_by x y s (inr m) = stands_filled x y s m

stands : (k : ℕ) (x : Standing) → Ran k x → Stands x
unfolding Ran
stands zero x r = stands_first x r
stands (suc k) x r = stands_by r.0 x (stands k r.0 r.1) r.2

pub every_cut : EveryCut
every_cut k x r =
    let s = stands k x r in
    record {
      whole = s.whole;
      over =
          λ rest c e.
          s.whole rest c
          ∙ ap (λ (g : Stage). x.told ++ text_after g (state_of x.table) (pending x.window x.buffer ++ rest)) e
          ∙ append-nil x.told;
      inside = s.inside;
      room = s.room;
    }
