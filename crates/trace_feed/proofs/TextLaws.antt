-- One turn prints what the whole prints of the bytes that it takes, whatever comes behind them: what is whole stays the same (EventFront,
-- ParamsFront), and what is not is done only at the end of the input.
-- Assumes nothing.
use Rattle.std.proofs.Common.{Result, Ok, Err}
use Rattle.params_bytes.specs.declared.ReadError.{ReadError}
use Rattle.params_bytes.specs.declared.ReadError.TheVariants.{Broken, Malformed}
use Prim.{tt}
use Prim.Native.Nat.{ℕ, zero, suc, ◌<◌, ◌≤◌}
use mathlib.Core.Path.{◌≡◌, refl, sym, ap, ◌∙◌}
use mathlib.Core.Bool.{Bool, true}
use mathlib.Core.List.{List, [], ◌∷◌, ◌++◌, append-nil}
use native.Mathlib.Omega.{arith}
use borrow.Author.Tests.{eqb-true, eqb-false}
use lib.Dec.{eqb}
use lib.ListN.{length, drop, length-append, length-drop}
use lib.Seq.{drop-append-le}
use Rattle.index.specs.Index.{every}
use Rattle.index.proofs.Flags.{by_test}
use Rattle.records.specs.Records.{State}
use Rattle.varint.proofs.GroupLaws.{read_at_end}
use Rattle.params_bytes.specs.Read.{front_at}
use Rattle.params.specs.Check.{first_broken}
use Rattle.lookup.specs.Fresh.{fresh_state}
use Rattle.rules.specs.Step.{step, action_room}
use Rattle.trace_events.specs.declared.Edition.{Edition}
use Rattle.trace_events.specs.Reading.{Event, event, unknown, malformed, short, cut_short, event_at}
use Rattle.trace_events.specs.Lines.{pair_line, lines_of}
use Rattle.trace_events.proofs.EventLaws.{Behind, event_behind}
use Rattle.trace_feed.specs.declared.Stage.{Stage}
use Rattle.trace_feed.specs.declared.Stage.TheVariants.{Params, Events, Over}
use Rattle.trace_feed.specs.Printed.{event_text, unless_end, text_from, events_text, printed_of}
use Rattle.trace_feed.specs.declared.FrontError.{FrontError}
use Rattle.trace_feed.specs.declared.FrontError.TheVariants.{Other, Cut}
use Rattle.trace_feed.specs.Front.{front_in}
use Rattle.trace_feed.specs.Turns.{Turn, event_turn, events_turn, params_by, params_turn, front_by, front_turn, turn_of, taken, text_of}
use Rattle.trace_feed.specs.Turns.{left_by, stage_by}
use Rattle.trace_feed.specs.Cuts.{text_after, OneTurn}
use Rattle.trace_feed.proofs.ReadFront.{most}
use Rattle.trace_feed.proofs.EventFront.{event_stays, Closes, event_closes}
use Rattle.trace_feed.proofs.ParamsFront.{Kept, front_stays, Verdicts, front_is, Near, front_near, trace_stays}

-- ---- more turns than bytes print nothing more
event_same :
    (s : List ℕ) (f g : State → ℕ → List ℕ) (st : State) (x : Event) →
    Behind 0 x →
    ((left : State) (next : ℕ) → 0 < next → f left next ≡ g left next) →
    event_text f st x ≡ event_text g st x
event_same s f g st (event c next) b same =
    ap (λ (l : List ℕ). lines_of (step st c action_room) ++ l) (same (step st c action_room).state next b)
event_same s f g st unknown b same = refl
event_same s f g st malformed b same = refl
event_same s f g st short b same = refl

from_same : (g : Edition) (n m : ℕ) (st : State) (s : List ℕ) → length s ≤ n → length s ≤ m → text_from g n st s ≡ text_from g m st s
unfolding text_from
from_same g zero zero st s h k = refl
from_same g zero (suc m) st [] h k = refl
from_same g zero (suc m) st (b ∷ s) h k = absurd (omega arith)
from_same g (suc n) zero st [] h k = refl
from_same g (suc n) zero st (b ∷ s) h k = absurd (omega arith)
from_same g (suc n) (suc m) st s h k =
    ap (unless_end s)
    (event_same s (λ left next. text_from g n left (drop next s)) (λ left next. text_from g m left (drop next s)) st (event_at g s 0)
    (event_behind g s 0)
    (λ left next i.
    from_same g n m left (drop next s) (omega (arith, length-drop next s)) (omega (arith, length-drop next s))))

-- ---- the event at the front, and those behind it
pub events_one :
    (g : Edition) (st : State) (s : List ℕ) (x : Event) →
    0 < length s →
    event_at g s 0 ≡ x →
    events_text g st s ≡ event_text (λ left next. events_text g left (drop next s)) st x
unfolding events_text text_from
events_one g st [] x h e = absurd (omega arith)
events_one g st (b ∷ s) x h e =
    let l : List ℕ = b ∷ s in
    event_same l (λ left next. text_from g (length s) left (drop next l)) (λ left next. text_from g (length (drop next l)) left (drop next l))
    st
    (event_at g l 0)
    (event_behind g l 0)
    (λ left next i. from_same g (length s) (length (drop next l)) left (drop next l) (omega (arith, length-drop next l)) (omega arith))
    ∙ ap (event_text (λ left next. text_from g (length (drop next l)) left (drop next l)) st) e

pub events_none : (g : Edition) (st : State) (s : List ℕ) → length s ≡ 0 → events_text g st s ≡ []
unfolding events_text text_from
events_none g st [] h = refl
events_none g st (b ∷ s) h = absurd (omega arith)

-- ---- a turn of the events
empty : (s : List ℕ) → length s ≡ 0 → s ≡ []
empty [] h = refl
empty (b ∷ s) h = absurd (omega arith)

module _ (last : Bool) (st : State) (w rest : List ℕ) (e : last ≡ true → rest ≡ []) where
  abbrev Goes : Stage → Turn → Type 0
  Goes stage t =
      text_after stage st (w ++ rest) ≡ text_of t ++ text_after (stage_by stage t) (left_by st t) (drop (taken t) w ++ rest)

  all_there : last ≡ true → w ++ rest ≡ w
  all_there t = ap (λ (r : List ℕ). w ++ r) (e t) ∙ append-nil w

  longer : length w ≤ length (w ++ rest)
  longer = omega (arith, length-append w rest)

  event_goes :
      (g : Edition) (x : Event) → event_at g w 0 ≡ x → Closes (length w) 0 x → 0 < length w → Goes (Events g) (event_turn g last st x)
  event_goes g (event c next) f h i =
      let l = longer in
      let q : event_at g (w ++ rest) 0 ≡ event c next = event_stays g w rest 0 (rw f) ∙ f in
      events_one g st (w ++ rest) (event c next) (omega arith) q
      ∙ ap (λ (s : List ℕ). lines_of (step st c action_room) ++ events_text g (step st c action_room).state s) (drop-append-le next w rest h)
  event_goes g unknown f h i =
      let l = longer in
      let q : event_at g (w ++ rest) 0 ≡ unknown = event_stays g w rest 0 (rw f) ∙ f in
      events_one g st (w ++ rest) unknown (omega arith) q ∙ sym (append-nil (pair_line 2 0))
  event_goes g malformed f h i =
      let l = longer in
      let q : event_at g (w ++ rest) 0 ≡ malformed = event_stays g w rest 0 (rw f) ∙ f in
      events_one g st (w ++ rest) malformed (omega arith) q ∙ sym (append-nil (pair_line 10 0))
  event_goes g short f h i =
      by_test (Goes (Events g) (event_turn g last st short)) last
      (λ t. rw t (ap (events_text g st) (all_there t) ∙ events_one g st w short i f ∙ sym (append-nil (pair_line 10 0))))
      (λ t. rw t)

  nothing_there : (g : Edition) → length w ≡ 0 → event_at g w 0 ≡ short
  unfolding event_at cut_short every
  nothing_there g h = let f : w ≡ [] = empty w h in rw (f, read_at_end most [] 0 (omega arith))

  events_go : (g : Edition) → Goes (Events g) (events_turn g last st w)
  unfolding events_turn
  events_go g =
      by_test (Goes (Events g) (events_turn g last st w)) (eqb (length w) 0)
      (λ z.
      by_test (Goes (Events g) (events_turn g last st w)) last
      (λ t.
      let n : length (w ++ rest) ≡ 0 = ap length (all_there t) ∙ eqb-true (length w) 0 z in
      rw (t, z) (events_none g st (w ++ rest) n))
      (λ t. rw (t, nothing_there g (eqb-true (length w) 0 z))))
      (λ z.
      let i : length w ≡ 0 → ⊥ = eqb-false (length w) 0 z in
      let q : Goes (Events g) (event_turn g last st (event_at g w 0)) =
      event_goes g (event_at g w 0) refl (event_closes g w 0) (omega arith) in
      by_test (Goes (Events g) (events_turn g last st w)) last
      (λ t. rw (t, z) (rw t at q))
      (λ t. rw t (rw t at q)))

  -- ---- a turn of the parameters, behind a front that is there
  module _ (g : Edition) (at : ℕ) (begins : front_in w ≡ Ok (g, at)) (near : at ≤ length w) where
    front_same : Kept w (front_at w at).verdict → front_in (w ++ rest) ≡ Ok (g, at)
    front_same k = trace_stays w rest (rw begins k) ∙ begins

    params_by_lem :
        (v : Result ℕ ReadError) →
        (front_at w at).verdict ≡ v →
        Verdicts at (length w) (first_broken (front_at w at).params) v →
        Goes Params (params_by g last w (front_at w at).params v)
    unfolding printed_of
    params_by_lem (Ok next) f h =
        let k : Kept w (front_at w at).verdict = rw f tt in
        rw (front_same k, front_stays w rest at near k, f)
        (ap (events_text g (fresh_state (front_at w at).params)) (drop-append-le next w rest h.1))
    params_by_lem (Err (Broken i)) f h =
        let k : Kept w (front_at w at).verdict = rw f tt in
        rw (front_same k, front_stays w rest at near k, f) (sym (append-nil (pair_line 9 i)))
    params_by_lem (Err (Malformed p)) f h =
        by_test (Goes Params (params_by g last w (front_at w at).params (Err (Malformed p)))) last
        (λ t. rw (t, all_there t, begins, f) (sym (append-nil (pair_line 10 p))))
        (λ t.
        by_test (Goes Params (params_by g last w (front_at w at).params (Err (Malformed p)))) (cut_short w p)
        (λ c. rw (t, c))
        (λ c.
        let k : Kept w (front_at w at).verdict = rw f c in
        rw (t, c, front_same k, front_stays w rest at near k, f) (sym (append-nil (pair_line 10 p)))))

    params_go : Goes Params (params_turn g at last w)
    unfolding params_turn
    params_go = params_by_lem (front_at w at).verdict refl (front_is w at near)

  -- ---- and of the front
  front_by_lem : (x : Result (Edition × ℕ) FrontError) → front_in w ≡ x → Near w x → Goes Params (front_by last w x)
  unfolding printed_of
  front_by_lem (Ok (g, at)) f n = params_go g at f n.1
  front_by_lem (Err Other) f n = rw (trace_stays w rest (rw f tt), f) (sym (append-nil (pair_line 9 2)))
  front_by_lem (Err Cut) f n =
      by_test (Goes Params (front_by last w (Err Cut))) last
      (λ t. rw (t, all_there t, f) (sym (append-nil (pair_line 10 2))))
      (λ t. rw t)

  front_go : Goes Params (front_turn last w)
  unfolding front_turn
  front_go = front_by_lem (front_in w) refl (front_near w)

  turn_goes : (stage : Stage) → Goes stage (turn_of stage last st w)
  turn_goes Params = front_go
  turn_goes (Events g) = events_go g
  turn_goes Over = refl

pub one_turn : OneTurn
one_turn stage last st window rest e = turn_goes last st window rest e stage
