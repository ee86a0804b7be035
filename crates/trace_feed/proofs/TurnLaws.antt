-- The ends of `feed`: what each way through the code comes to.
-- Assumes nothing.
use Rattle.std.proofs.Common.{Option, Result, Ok, Err}
use Rattle.params_bytes.specs.declared.ReadError.{ReadError}
use Rattle.params_bytes.specs.declared.ReadError.TheVariants.{Broken, Malformed}
use Rattle.lookup.specs.declared.FreshError.{FreshError}
use Prim.Native.Nat.{ℕ, ◌+◌, ◌<◌, ◌≤◌}
use mathlib.Core.Path.{◌≡◌, refl, sym, ap, ap₂, ◌∙◌}
use mathlib.Core.Logic.{◌≢◌}
use mathlib.Core.Bool.{Bool, true, false, not, cond, ◌&&◌}
use mathlib.Core.List.{List, [], ◌∷◌}
use native.Mathlib.Omega.{arith}
use native.Mathlib.Nat.{zero-add}
use borrow.Author.Tests.{le-ltb, ne_eqb}
use lib.Dec.{eqb}
use lib.ListN.{length, get_or}
use Rattle.text.specs.Text.{Stored}
use Rattle.records.specs.Records.{State}
use Rattle.params.specs.Check.{first_broken}
use Rattle.params_bytes.specs.Read.{Reading, front_at}
use Rattle.layout.specs.View.{state_of}
use Rattle.lookup.specs.Fresh.{left_by as freshBy, Makes}
use Rattle.rules.specs.Step.{step, action_room}
use Rattle.trace_events.specs.declared.Edition.{Edition}
use Rattle.trace_events.specs.declared.Edition.TheVariants.{First, Second, Third}
use Rattle.trace_events.specs.Reading.{Event, event, unknown, malformed, short, cut_short, event_at}
use Rattle.trace_events.specs.Lines.{pair_line, lines_of, line_room}
use Rattle.trace_step.specs.declared.Replayed.{Replayed}
use Rattle.trace_step.specs.declared.Replayed.TheVariants.{Called, Stopped, Short, Full}
use Rattle.trace_step.specs.Replay.{replay_event, replay_of, Replays}
use Rattle.trace_feed.specs.declared.Stage.{Stage}
use Rattle.trace_feed.specs.declared.Stage.TheVariants.{Over}
use Rattle.trace_feed.specs.declared.Fed.{Fed}
use Rattle.trace_feed.specs.declared.Fed.TheVariants.{Took, Ended, Wants}
use Rattle.trace_feed.specs.declared.FrontError.{FrontError}
use Rattle.trace_feed.specs.declared.FrontError.TheVariants.{Other, Cut}
use Rattle.trace_feed.specs.Front.{of_third, front_in}
use Rattle.trace_feed.specs.Turns.{Turn, ended, wants, cut_turn, event_turn, events_turn, params_by, params_turn, front_by, front_turn}
use Rattle.trace_feed.specs.Turns.{turn_of}
use Rattle.trace_feed.specs.Turns.{Feeds}
use Rattle.trace_feed.proofs.ParamsFront.{Verdicts, front_is, Near, front_near}

-- a line of two numbers ends the trace
line_ends :
    (a b n : ℕ) (table out out' : List ℕ) →
    Stored out 0 (pair_line a b) n out' × (n ≤ 0 + 42) →
    Feeds (ended (pair_line a b)) (Ended n) table table out out'
line_ends a b n table out out' s =
    let e : n ≡ length (pair_line a b) = s.0.0 ∙ zero-add (length (pair_line a b)) in
    record { answer = ap Ended e; state = refl; bytes = s.0.1; room = omega (arith, s.1) }

as_turn :
    (t u : Turn) (r : Fed) (table table' out out' : List ℕ) → t ≡ u → Feeds u r table table' out out' → Feeds t r table table' out out'
as_turn t u r table table' out out' e f = rw e f

-- ---- the parameters
module _ (g : Edition) (at : ℕ) (last : Bool) (s : List ℕ) (l : at ≤ length s) (q : Reading) (e : q ≡ front_at s at) where
  by_verdict : (v : Result ℕ ReadError) → q.verdict ≡ v → params_turn g at last s ≡ params_by g last s q.params v
  unfolding params_turn
  by_verdict v f = rw (← e, f)

  verdict_is : (v : Result ℕ ReadError) → q.verdict ≡ v → Verdicts at (length s) (first_broken q.params) v
  verdict_is v f = let k = front_is s at l in rw (← e, f) at k

  pub params_accepted :
      (next : ℕ) (r : Result (Unit {0}) FreshError) (table table' out : List ℕ) →
      q.verdict ≡ Ok next →
      Makes q.params r table table' →
      Feeds (params_turn g at last s) (Took g next 0) table table' out out
  params_accepted next r table table' out f k =
      as_turn (params_turn g at last s) (params_by g last s q.params (Ok next)) (Took g next 0) table table' out out
      (by_verdict (Ok next) f)
      (record {
        answer = refl;
        state = k.state ∙ ap (λ (x : Option ℕ). freshBy x q.params (state_of table)) (verdict_is (Ok next) f).0;
        bytes = refl;
        room = omega arith;
      })

  pub params_broken :
      (i n : ℕ) (table out out' : List ℕ) →
      q.verdict ≡ Err (Broken i) →
      Stored out 0 (pair_line 9 i) n out' × (n ≤ 0 + 42) →
      Feeds (params_turn g at last s) (Ended n) table table out out'
  params_broken i n table out out' f w =
      as_turn (params_turn g at last s) (ended (pair_line 9 i)) (Ended n) table table out out' (by_verdict (Err (Broken i)) f)
      (line_ends 9 i n table out out' w)

  module _ (p : ℕ) (c : Bool) (f : q.verdict ≡ Err (Malformed p)) (k : c ≡ cut_short s p) where
    pub params_want :
        (table out : List ℕ) → (not last && c) ≡ true → Feeds (params_turn g at last s) Wants table table out out
    params_want table out h =
        as_turn (params_turn g at last s) wants Wants table table out out
        (by_verdict (Err (Malformed p)) f
        ∙ ap (λ (b : Bool). cond b wants (ended (pair_line 10 p))) (ap (λ (b : Bool). not last && b) (sym k) ∙ h))
        (record { answer = refl; state = refl; bytes = refl; room = omega arith })

    pub params_malformed :
        (n : ℕ) (table out out' : List ℕ) →
        (not last && c) ≡ false →
        Stored out 0 (pair_line 10 p) n out' × (n ≤ 0 + 42) →
        Feeds (params_turn g at last s) (Ended n) table table out out'
    params_malformed n table out out' h w =
        as_turn (params_turn g at last s) (ended (pair_line 10 p)) (Ended n) table table out out'
        (by_verdict (Err (Malformed p)) f
        ∙ ap (λ (b : Bool). cond b wants (ended (pair_line 10 p))) (ap (λ (b : Bool). not last && b) (sym k) ∙ h))
        (line_ends 10 p n table out out' w)

-- ---- the front
pub third_second : (b : ℕ) → b ≡ 2 → Ok (Second, 3) ≡ of_third b
third_second b e = rw e

pub third_third : (b : ℕ) → b ≡ 3 → Ok (Third, 3) ≡ of_third b
third_third b e = rw e

pub third_other : (b : ℕ) → b ≢ 2 → b ≢ 3 → Err Other ≡ of_third b
third_other b e f = rw (ne_eqb b 2 e, ne_eqb b 3 f)

pub front_few : (s : List ℕ) → length s < 2 → Ok (First, 0) ≡ front_in s
unfolding front_in
front_few [] h = refl
front_few (a ∷ []) h = refl
front_few (a ∷ (b ∷ s)) h = absurd (omega arith)

pub front_first : (s : List ℕ) → 2 ≤ length s → (eqb (get_or s 0 0) 0 && eqb (get_or s 1 0) 0) ≡ false → Ok (First, 0) ≡ front_in s
unfolding front_in
front_first [] l h = refl
front_first (a ∷ []) l h = refl
front_first (a ∷ (b ∷ s)) l h = rw h

pub front_cut : (s : List ℕ) → length s ≡ 2 → (eqb (get_or s 0 0) 0 && eqb (get_or s 1 0) 0) ≡ true → Err Cut ≡ front_in s
unfolding front_in
front_cut [] l h = absurd (omega arith)
front_cut (a ∷ []) l h = absurd (omega arith)
front_cut (a ∷ (b ∷ [])) l h = rw h
front_cut (a ∷ (b ∷ (c ∷ s))) l h = absurd (omega arith)

pub front_third :
    (s : List ℕ) (r : Result (Edition × ℕ) FrontError) →
    2 ≤ length s →
    (length s ≡ 2 → ⊥) →
    (eqb (get_or s 0 0) 0 && eqb (get_or s 1 0) 0) ≡ true →
    r ≡ of_third (get_or s 2 0) →
    r ≡ front_in s
unfolding front_in
front_third [] r l n h e = absurd (omega arith)
front_third (a ∷ []) r l n h e = absurd (omega arith)
front_third (a ∷ (b ∷ [])) r l n h e = absurd (n refl)
front_third (a ∷ (b ∷ (c ∷ s))) r l n h e = rw h e

-- where it says that the parameters begin
module _ (s : List ℕ) (x : Result (Edition × ℕ) FrontError) (told : x ≡ front_in s) where
  near_as : (y : Result (Edition × ℕ) FrontError) → x ≡ y → Near s y
  near_as y e = let n = front_near s in rw (← told, e) at n

  pub begins_within : (g : Edition) (at : ℕ) → x ≡ Ok (g, at) → at ≤ length s
  begins_within g at e = (near_as (Ok (g, at)) e).1

  module _ (last : Bool) where
    by_front : (y : Result (Edition × ℕ) FrontError) → x ≡ y → front_turn last s ≡ front_by last s y
    unfolding front_turn
    by_front y e = ap (front_by last s) (sym told ∙ e)

    pub front_begins :
        (g : Edition) (at : ℕ) (r : Fed) (table table' out out' : List ℕ) →
        x ≡ Ok (g, at) →
        Feeds (params_turn g at last s) r table table' out out' →
        Feeds (front_turn last s) r table table' out out'
    front_begins g at r table table' out out' e f =
        as_turn (front_turn last s) (params_turn g at last s) r table table' out out' (by_front (Ok (g, at)) e) f

    pub front_other :
        (n : ℕ) (table out out' : List ℕ) →
        x ≡ Err Other →
        Stored out 0 (pair_line 9 2) n out' × (n ≤ 0 + 42) →
        Feeds (front_turn last s) (Ended n) table table out out'
    front_other n table out out' e w =
        as_turn (front_turn last s) (ended (pair_line 9 2)) (Ended n) table table out out' (by_front (Err Other) e)
        (line_ends 9 2 n table out out' w)

    module _ (e : x ≡ Err Cut) where
      pub front_want : (table out : List ℕ) → last ≡ false → Feeds (front_turn last s) Wants table table out out
      front_want table out l =
          as_turn (front_turn last s) wants Wants table table out out
          (by_front (Err Cut) e ∙ ap (λ (b : Bool). cut_turn b (pair_line 10 2)) l)
          (record { answer = refl; state = refl; bytes = refl; room = omega arith })

      pub front_ends :
          (n : ℕ) (table out out' : List ℕ) →
          last ≡ true →
          Stored out 0 (pair_line 10 2) n out' × (n ≤ 0 + 42) →
          Feeds (front_turn last s) (Ended n) table table out out'
      front_ends n table out out' l w =
          as_turn (front_turn last s) (ended (pair_line 10 2)) (Ended n) table table out out'
          (by_front (Err Cut) e ∙ ap (λ (b : Bool). cut_turn b (pair_line 10 2)) l)
          (line_ends 10 2 n table out out' w)

-- ---- the events
module _ (d : Edition) (last : Bool) (st : State) (s : List ℕ) where
  pub events_end : (table out : List ℕ) → state_of table ≡ st → (last && eqb (length s) 0) ≡ true →
      Feeds (events_turn d last st s) (Ended 0) table table out out
  unfolding events_turn
  events_end table out e h = rw h (record { answer = refl; state = refl; bytes = refl; room = omega arith })

  events_turn_lem : (last && eqb (length s) 0) ≡ false → events_turn d last st s ≡ event_turn d last st (event_at d s 0)
  unfolding events_turn
  events_turn_lem h = rw h

-- an event that was printed; what its answer tells of it
module _ (d : Edition) (last : Bool) (table table' out out' : List ℕ) where
  event_took :
      (x : Event) (next n : ℕ) →
      Replays (replay_event (state_of table) out x) (Called next n) table' out' →
      Feeds (event_turn d last (state_of table) x) (Took d next n) table table' out out'
  event_took (event c m) next n p =
      let a = p.answer in
      let f : next ≡ m = cc in
      let g : n ≡ length (lines_of (step (state_of table) c action_room)) = cc in
      let r = p.room in
      record { answer = ap₂ (Took d) f g; state = p.state; bytes = p.bytes; room = omega arith }
  event_took unknown next n p = let a = p.answer in let z : ◌≡◌ {A = ℕ} 0 1 = cc in absurd (omega arith)
  event_took malformed next n p = let a = p.answer in let z : ◌≡◌ {A = ℕ} 0 1 = cc in absurd (omega arith)
  event_took short next n p = let a = p.answer in let z : ◌≡◌ {A = ℕ} 0 1 = cc in absurd (omega arith)

  event_ended :
      (x : Event) (n : ℕ) →
      Replays (replay_event (state_of table) out x) (Stopped n) table' out' →
      Feeds (event_turn d last (state_of table) x) (Ended n) table table' out out'
  event_ended (event c m) n p = let a = p.answer in let z : ◌≡◌ {A = ℕ} 0 1 = cc in absurd (omega arith)
  event_ended unknown n p =
      let a = p.answer in
      let g : n ≡ length (pair_line 2 0) = cc in
      let r = p.room in
      record { answer = ap Ended g; state = p.state; bytes = p.bytes; room = omega arith }
  event_ended malformed n p =
      let a = p.answer in
      let g : n ≡ length (pair_line 10 0) = cc in
      let r = p.room in
      record { answer = ap Ended g; state = p.state; bytes = p.bytes; room = omega arith }
  event_ended short n p = let a = p.answer in let z : ◌≡◌ {A = ℕ} 0 1 = cc in absurd (omega arith)

  event_short :
      (x : Event) → Replays (replay_event (state_of table) out x) Short table' out' → (x ≡ short) × (state_of table' ≡ state_of table)
      × (out' ≡ out)
  event_short (event c m) p = let a = p.answer in let z : ◌≡◌ {A = ℕ} 0 1 = cc in absurd (omega arith)
  event_short unknown p = let a = p.answer in let z : ◌≡◌ {A = ℕ} 0 1 = cc in absurd (omega arith)
  event_short malformed p = let a = p.answer in let z : ◌≡◌ {A = ℕ} 0 1 = cc in absurd (omega arith)
  event_short short p = (refl, p.state, p.bytes)

  event_full :
      (x : Event) → Replays (replay_event (state_of table) out x) Full table' out' →
      Feeds (event_turn d last (state_of table) x) (Ended 0) table table' out out'
  event_full (event c m) p = let a = p.answer in let z : ◌≡◌ {A = ℕ} 0 1 = cc in absurd (omega arith)
  event_full unknown p = let a = p.answer in let z : ◌≡◌ {A = ℕ} 0 1 = cc in absurd (omega arith)
  event_full malformed p = let a = p.answer in let z : ◌≡◌ {A = ℕ} 0 1 = cc in absurd (omega arith)
  event_full short p = let a = p.answer in let z : ◌≡◌ {A = ℕ} 0 1 = cc in absurd (omega arith)

module _ (d : Edition) (last : Bool) (s table table' out out' : List ℕ) (r : Replayed)
    (t : (last && eqb (length s) 0) ≡ false) (h : line_room ≤ length out)
    (p : Replays (replay_of d (state_of table) s 0 out) r table' out') where
  printed_as : (q : Replayed) → r ≡ q → Replays (replay_event (state_of table) out (event_at d s 0)) q table' out'
  unfolding replay_of
  printed_as q e = let f = le-ltb (length out) line_room h in rw (f, e) at p

  of_turn : (u : Fed) (new : List ℕ) → Feeds (event_turn d last (state_of table) (event_at d s 0)) u table table' out new →
      Feeds (events_turn d last (state_of table) s) u table table' out new
  of_turn u new f =
      as_turn (events_turn d last (state_of table) s) (event_turn d last (state_of table) (event_at d s 0)) u table table' out new
      (events_turn_lem d last (state_of table) s t) f

  pub events_took : (next n : ℕ) → r ≡ Called next n → Feeds (events_turn d last (state_of table) s) (Took d next n) table table' out out'
  events_took next n e =
      of_turn (Took d next n) out' (event_took d last table table' out out' (event_at d s 0) next n (printed_as (Called next n) e))

  pub events_stop : (n : ℕ) → r ≡ Stopped n → Feeds (events_turn d last (state_of table) s) (Ended n) table table' out out'
  events_stop n e =
      of_turn (Ended n) out' (event_ended d last table table' out out' (event_at d s 0) n (printed_as (Stopped n) e))

  -- there is room, so it is not said
  pub events_full : r ≡ Full → Feeds (events_turn d last (state_of table) s) (Ended 0) table table' out out'
  events_full e = of_turn (Ended 0) out' (event_full d last table table' out out' (event_at d s 0) (printed_as Full e))

  module _ (e : r ≡ Short) where
    pub events_want : last ≡ false → Feeds (events_turn d last (state_of table) s) Wants table table' out out'
    events_want l =
        let q = event_short d last table table' out out' (event_at d s 0) (printed_as Short e) in
        of_turn Wants out' (rw (q.0, l, q.2) (record { answer = refl; state = q.1; bytes = refl; room = omega arith }))

    pub events_cut :
        (n : ℕ) (new : List ℕ) →
        last ≡ true →
        Stored out' 0 (pair_line 10 0) n new × (n ≤ 0 + 42) →
        Feeds (events_turn d last (state_of table) s) (Ended n) table table' out new
    events_cut n new l w =
        let q = event_short d last table table' out out' (event_at d s 0) (printed_as Short e) in
        let f = line_ends 10 0 n table out new (rw q.2 at w) in
        of_turn (Ended n) new (rw (q.0, l) (record { answer = f.answer; state = q.1; bytes = f.bytes; room = f.room }))

-- ---- the stage
pub feeds_stage :
    (g h : Stage) (last : Bool) (s : List ℕ) (st : State) (r : Fed) (table table' out out' : List ℕ) →
    g ≡ h →
    Feeds (turn_of h last st s) r table table' out out' →
    Feeds (turn_of g last st s) r table table' out out'
feeds_stage g h last s st r table table' out out' e f = rw e f

pub feeds_over :
    (g : Stage) (last : Bool) (s table out : List ℕ) → g ≡ Over → Feeds (turn_of g last (state_of table) s) (Ended 0) table table out out
feeds_over g last s table out e = rw e (record { answer = refl; state = refl; bytes = refl; room = omega arith })
