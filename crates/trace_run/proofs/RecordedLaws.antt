-- A recorded list: the calls made so far and the rest of the events, turn by turn; the ends of a run; and that the list is all that stands
-- in the bytes.
-- Assumes nothing.
use Rattle.trace_step.specs.declared.EventError.{EventError}
use Rattle.trace_step.specs.declared.EventError.TheVariants.{CutShort, Malformed, Unknown}
use Rattle.std.proofs.Common.{Option, Some, None, Result, Ok, Err}
use Rattle.lookup.specs.declared.FreshError.{FreshError}
use Rattle.lookup.specs.declared.FreshError.TheVariants.{Broken}
use Prim.Native.Nat.{ℕ, zero, suc, ◌+◌, ◌-◌, ◌<◌, ◌≤◌}
use mathlib.Core.Path.{◌≡◌, refl, sym, ap, ap₂, ◌∙◌}
use mathlib.Core.Bool.{false, false≢true}
use mathlib.Core.List.{List, [], ◌∷◌}
use native.Mathlib.Omega.{arith}
use lib.ListN.{length, set, length-append}
use lib.Seq.{sets, length-sets}
use native.Mathlib.Nat.{zero-add}
use native.Mathlib.Numerals.{add-one}
use Rattle.params.specs.declared.Params.{Params}
use Rattle.index.proofs.Lists.{sets_append}
use Rattle.effects.specs.Actions.{Action, numbers_of}
use Rattle.rules.specs.Reply.{Reply}
use Rattle.answers.specs.Answers.{answer_code}
use Rattle.index.proofs.Flags.{cond_case}
use Rattle.varint.proofs.GroupLaws.{read_at_end}
use Rattle.params.specs.Check.{first_broken}
use Rattle.records.specs.Records.{State, param_count}
use Rattle.layout.specs.View.{state_of}
use Rattle.lookup.specs.Fresh.{fresh_state, made_of, left_by, Makes}
use Rattle.rules.specs.declared.Answer.{Answer}
use Rattle.rules.specs.Step.{step}
use Rattle.trace_events.specs.declared.Edition.{Edition}
use Rattle.trace_events.specs.Reading.{Event, event, unknown, malformed, short, cut_short, event_at}
use Rattle.trace_events.proofs.EventLaws.{Behind, event_behind}
use Rattle.call_lists.specs.Lists.{Made, fresh, from_fresh, after}
use Rattle.call_lists.specs.Demand3.{Holds}
use Rattle.call_lists.proofs.Demand3.{demand3}
use Rattle.trace_step.specs.Replay.{perform_event, Performs}
use Rattle.trace_step.proofs.ReplayLaws.{Told, told as told-event}
use Rattle.trace_run.specs.Recorded.{Recording, joins, calls_from, recording_of, is_event, All, reply_to, answers_to, actions_after, Runs}

-- ---- the answers: one for each call
answers_length : (params : Params) (calls : List Made) → length (answers_to params calls) ≡ length calls
unfolding answers_to
answers_length params [] = refl
answers_length params (c ∷ before) =
    length-append (answers_to params before) _
    ∙ ap (λ (n : ℕ). n + 1) (answers_length params before)
    ∙ add-one (length before)

-- one more is stored behind them
one_more :
    (params : Params) (c : Made) (before : List Made) (told : List ℕ) →
    set (sets told 0 (answers_to params before)) (length before) (answer_code (reply_to params before c).answer)
    ≡ sets told 0 (answers_to params (c ∷ before))
unfolding answers_to
one_more params c before told =
    let code : ℕ = answer_code (reply_to params before c).answer in
    let e : length before ≡ 0 + length (answers_to params before) =
    sym (zero-add (length (answers_to params before)) ∙ answers_length params before) in
    ap (λ (n : ℕ). set (sets told 0 (answers_to params before)) n code) e ∙ sym (sets_append told 0 (answers_to params before) (code ∷ []))

actions_length : (params : Params) (calls : List Made) (list : List ℕ) → length (actions_after params calls list) ≡ length list
unfolding actions_after
actions_length params [] list = refl
actions_length params (c ∷ before) list =
    length-sets (actions_after params before list) 0 (numbers_of (reply_to params before c).actions) ∙ actions_length params before list

-- ---- the loop: the calls made so far, which the events from `at` on complete to the whole list. list₀ and told₀ are what stood in the
-- lists that were lent
pub record Going (d : Edition) (params : Params) (s list₀ told₀ : List ℕ) (at calls : ℕ) (table list told : List ℕ) : Type 0 where
  pub before : List Made
  pub many : length before ≡ calls
  pub rest : calls_from d (length list₀) (length told₀ - calls) s at before ≡ recording_of d (length list₀) (length told₀) s
  pub state : state_of table ≡ after (fresh params) before
  pub actions : list ≡ actions_after params before list₀
  pub answers : told ≡ sets told₀ 0 (answers_to params before)

pub going_none :
    (d : Edition) (params : Params) (s table list told : List ℕ) → state_of table ≡ fresh_state params →
    Going d params s list told 0 0 table list told
unfolding recording_of after actions_after answers_to
going_none d params s table list told e =
    let z : length told - 0 ≡ length told = omega arith in
    record { before = []; many = refl; rest = rw z; state = e; actions = refl; answers = refl }

-- one event of at least one
one_event :
    (d : Edition) (room m : ℕ) (s : List ℕ) (at : ℕ) (before : List Made) (x : Event) →
    0 < m →
    event_at d s at ≡ x →
    calls_from d room m s at before ≡ joins room (λ next calls. calls_from d room (m - 1) s next calls) at before x
unfolding calls_from
one_event d room zero s at before x h e = absurd (omega arith)
one_event d room (suc m) s at before x h e = let f : suc m - 1 ≡ m = omega arith in rw (f, e)

module _ (d : Edition) (params : Params) (s list₀ told₀ : List ℕ) (at calls : ℕ) (table table' list list' told : List ℕ) (r : Result (ℕ × Answer) EventError)
    (g : Going d params s list₀ told₀ at calls table list told) (h : calls < length told₀)
    (p : Performs (perform_event (state_of table) (length list) (event_at d s at)) r table' list list') where
  room_is : length list ≡ length list₀
  room_is = ap length g.actions ∙ actions_length params g.before list₀

  module _ (next : ℕ) (a : Answer) (e : r ≡ Ok (next, a)) where
    pub going_more : (code : ℕ) → code ≡ answer_code a → Going d params s list₀ told₀ next (calls + 1) table' list' (set told calls code)
    unfolding perform_event after actions_after
    going_more code f =
        let t = told-event (state_of table) (length list) (event_at d s at) (Ok (next, a)) (sym e ∙ p.answer) in
        let made : Made = record { call = t.0; room = length list₀ } in
        let o : step (state_of table) t.0 (length list) ≡ reply_to params g.before made =
        ap₂ (λ (st : State) (room : ℕ). step st t.0 room) g.state room_is in
        let k : length told₀ - calls - 1 ≡ length told₀ - (calls + 1) = omega arith in
        let q : calls_from d (length list₀) (length told₀ - calls) s at g.before
        ≡ calls_from d (length list₀) (length told₀ - calls - 1) s next (made ∷ g.before) =
        one_event d (length list₀) (length told₀ - calls) s at g.before (event t.0 next) (omega arith) t.1 in
        record {
          before = made ∷ g.before;
          many = omega (arith, g.many);
          rest = ap (λ (m : ℕ). calls_from d (length list₀) m s next (made ∷ g.before)) (sym k) ∙ sym q ∙ g.rest;
          state = p.state ∙ ap (λ (x : Event). (perform_event (state_of table) (length list) x).state) t.1
              ∙ ap (λ (y : Reply). y.state) o;
          actions =
              p.actions
              ∙ ap₂ (λ (l : List ℕ) (x : Event). sets l 0 (numbers_of (perform_event (state_of table) (length list) x).actions)) g.actions
              t.1
              ∙ ap (λ (y : Reply). sets (actions_after params g.before list₀) 0 (numbers_of y.actions)) o;
          answers =
              ap₂ (λ (l : List ℕ) (n : ℕ). set l n code) g.answers (sym g.many)
              ∙ ap (λ (n : ℕ). set (sets told₀ 0 (answers_to params g.before)) (length g.before) n)
              (f ∙ ap answer_code (t.2 ∙ ap (λ (y : Reply). y.answer) o))
              ∙ one_more params made g.before told₀;
        }

-- ---- the ends of `run`
-- no event stands there
no_event :
    (st : State) (room : ℕ) (x : Event) (r : Result (ℕ × Answer) EventError) →
    ((next : ℕ) (a : Answer) → r ≡ Ok (next, a) → ⊥) →
    Told st room x r →
    is_event x ≡ false
no_event st room x (Ok (next, a)) h t = absurd (h next a refl)
no_event st room x (Err Unknown) h t = ap is_event t
no_event st room x (Err Malformed) h t = ap is_event t
no_event st room x (Err CutShort) h t = ap is_event t

ends_there :
    (room : ℕ) (rest : ℕ → List Made → Recording) (at : ℕ) (before : List Made) (x : Event) →
    is_event x ≡ false →
    joins room rest at before x ≡ record { calls = before; place = at }
ends_there room rest at before (event c next) e = absurd (false≢true (sym e))
ends_there room rest at before unknown e = refl
ends_there room rest at before malformed e = refl
ends_there room rest at before short e = refl

-- and nothing is done
leaves_all :
    (st : State) (room : ℕ) (x : Event) →
    is_event x ≡ false →
    ((perform_event st room x).state ≡ st) × ((perform_event st room x).actions ≡ [])
unfolding perform_event
leaves_all st room (event c next) e = absurd (false≢true (sym e))
leaves_all st room unknown e = (refl, refl)
leaves_all st room malformed e = (refl, refl)
leaves_all st room short e = (refl, refl)

module _ (d : Edition) (params : Params) (s list₀ told₀ : List ℕ) (l : length params.numbers ≡ param_count) where
  abbrev whole : Recording
  whole = recording_of d (length list₀) (length told₀) s

  -- demand 3 of the list, for parameters that pass the check
  holds : first_broken params ≡ None → Holds (fresh params) whole.calls
  holds e = demand3 (fresh params) whole.calls (record { size = l; passes = e; begins = from_fresh refl })

  -- the calls made are all
  module _ (at calls : ℕ) (start table list told : List ℕ) (n : first_broken params ≡ None)
      (g : Going d params s list₀ told₀ at calls table list told) where
    ran :
        (table' list' : List ℕ) →
        calls_from d (length list₀) (length told₀ - calls) s at g.before ≡ record { calls = g.before; place = at } →
        state_of table' ≡ state_of table →
        list' ≡ list →
        Runs d params s (Ok (at, calls)) start table' list₀ list' told₀ told
    ran table' list' e k same =
        let q : whole ≡ record { calls = g.before; place = at } = sym g.rest ∙ e in
        record {
          answer = rw (n, q) (ap (λ (k : ℕ). Ok (at, k)) (sym g.many));
          state = rw (n, q) (k ∙ g.state);
          answers = λ f. g.answers ∙ ap (λ (w : Recording). sets told₀ 0 (answers_to params w.calls)) (sym q);
          actions = λ f. same ∙ g.actions ∙ ap (λ (w : Recording). actions_after params w.calls list₀) (sym q);
          kept = λ f. absurd (omega arith);
          demand3 = holds;
        }

    -- as many calls as there is room for
    pub ran_all : (last : ℕ) → calls ≡ last → length told₀ ≤ calls → Runs d params s (Ok (at, last)) start table list₀ list told₀ told
    unfolding calls_from
    ran_all last e h = let z : length told₀ - calls ≡ 0 = omega arith in rw (← e) (ran table list (rw z) refl refl)

    pub ran_stopped :
        (table' list' : List ℕ) (r : Result (ℕ × Answer) EventError) →
        calls < length told₀ →
        Performs (perform_event (state_of table) (length list) (event_at d s at)) r table' list list' →
        ((next : ℕ) (a : Answer) → r ≡ Ok (next, a) → ⊥) →
        Runs d params s (Ok (at, calls)) start table' list₀ list' told₀ told
    unfolding numbers_of
    ran_stopped table' list' r h p o =
        let t = told-event (state_of table) (length list) (event_at d s at) r p.answer in
        let f = no_event (state_of table) (length list) (event_at d s at) r o t in
        let x = leaves_all (state_of table) (length list) (event_at d s at) f in
        ran table' list'
        (one_event d (length list₀) (length told₀ - calls) s at g.before (event_at d s at) (omega arith) refl
        ∙ ends_there (length list₀) (λ next made. calls_from d (length list₀) (length told₀ - calls - 1) s next made) at g.before
        (event_at d s at) f)
        (p.state ∙ x.0)
        (p.actions ∙ ap (λ (m : List Action). sets list 0 (numbers_of m)) x.1)

-- the answer of `fresh` tells whether the parameters pass
passes : (f : Option ℕ) (r : Result (Unit {0}) FreshError) → r ≡ made_of f → r ≡ Ok tt → f ≡ None
passes (Some i) r e g = let z : ◌≡◌ {A = ℕ} 0 1 = cc in absurd (omega arith)
passes None r e g = refl

breaks : (f : Option ℕ) (r : Result (Unit {0}) FreshError) (i : ℕ) → r ≡ made_of f → r ≡ Err (Broken i) → f ≡ Some i
breaks (Some j) r i e g = cc
breaks None r i e g = let z : ◌≡◌ {A = ℕ} 0 1 = cc in absurd (omega arith)

no_both : {P : Type 0} (i : ℕ) → Some i ≡ None → P
no_both i e = let z : ◌≡◌ {A = ℕ} 0 1 = cc in absurd (omega arith)

module _ (params : Params) (r : Result (Unit {0}) FreshError) (table table' : List ℕ) (m : Makes params r table table') where
  pub accepted : r ≡ Ok tt → first_broken params ≡ None
  accepted e = passes (first_broken params) r m.answer e

  pub begins : r ≡ Ok tt → state_of table' ≡ fresh_state params
  begins e = m.state ∙ ap (λ (f : Option ℕ). left_by f params (state_of table)) (accepted e)

  pub run_refused :
      (d : Edition) (s list told : List ℕ) (x : FreshError) → length params.numbers ≡ param_count → r ≡ Err x →
      Runs d params s (Err x) table table' list list told told
  run_refused d s list told (Broken i) l e =
      let f = breaks (first_broken params) r i m.answer e in
      let k = m.kept i e in
      record {
        answer = rw f;
        state = rw f (ap state_of k);
        answers = λ g. no_both i (sym f ∙ g);
        actions = λ g. no_both i (sym f ∙ g);
        kept = λ g. (k, refl, refl);
        demand3 = holds d params s list told l;
      }

-- ---- the list is all that stands in the bytes
past_end : (d : Edition) (s : List ℕ) (at : ℕ) → length s ≤ at → is_event (event_at d s at) ≡ false
unfolding event_at
past_end d s at h =
    rw (read_at_end 18446744073709551615 s at h)
    (cond_case (λ (x : Event). is_event x ≡ false) (cut_short s at) short malformed (λ e. refl) (λ e. refl))

-- from one event to the next, which stands behind it
all_next :
    (d : Edition) (room m : ℕ) (s : List ℕ) (at : ℕ) (before : List Made) (rest : ℕ → List Made → Recording) (x : Event) →
    ((next : ℕ) (calls : List Made) → length s ≤ next + m → is_event (event_at d s (rest next calls).place) ≡ false) →
    event_at d s at ≡ x →
    Behind at x →
    length s ≤ at + suc m →
    is_event (event_at d s (joins room rest at before x).place) ≡ false
all_next d room m s at before rest (event c next) f e b h = f next _ (omega arith)
all_next d room m s at before rest unknown f e b h = ap is_event e
all_next d room m s at before rest malformed f e b h = ap is_event e
all_next d room m s at before rest short f e b h = ap is_event e

all_from :
    (d : Edition) (room m : ℕ) (s : List ℕ) (at : ℕ) (before : List Made) →
    length s ≤ at + m →
    is_event (event_at d s (calls_from d room m s at before).place) ≡ false
unfolding calls_from
all_from d room zero s at before h = past_end d s at (omega arith)
all_from d room (suc m) s at before h =
    all_next d room m s at before (λ next calls. calls_from d room m s next calls) (event_at d s at)
    (λ next calls k. all_from d room m s next calls k) refl
    (event_behind d s at)
    h

pub all : All
unfolding recording_of
all d room most s h = all_from d room most s 0 [] (omega arith)
