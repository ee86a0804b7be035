-- The ends of one event's functions: which call a kind is, how the numbers become an event, and what is printed of a reply.
-- Assumes nothing.
use Rattle.std.proofs.Common.{Result, Ok, Err}
use Rattle.trace_step.specs.declared.EventError.{EventError}
use Rattle.trace_step.specs.declared.EventError.TheVariants.{CutShort, Malformed, Unknown}
use Rattle.std.proofs.Common.{Option, Some, None}
use Prim.Native.Nat.{ℕ, zero, suc, ◌+◌, ◌-◌, ◌≤◌, ◌<◌}
use mathlib.Core.Path.{◌≡◌, refl, sym, ap, ap₂, ◌∙◌}
use mathlib.Core.Logic.{◌≢◌}
use mathlib.Core.Bool.{Bool, cond}
use mathlib.Core.List.{List, [], ◌∷◌}
use native.Mathlib.Omega.{arith}
use native.Mathlib.Nat.{zero-add}
use borrow.Author.Tests.{lt-leb, le-leb, lt-ltb, le-ltb, ne_eqb}
use lib.Dec.{eqb, leb}
use lib.IntN.{ℤ}
use mir.Syntax.{w64}
use mir.Val.{SFits, to_z, of_z}
use mir.Facts.{to_z-of_z}
use lib.ListN.{length, get_or, take, drop, replicate, get_or-eq_default, length-take}
use lib.Seq.{sets, get_or-take}
use Rattle.index.proofs.Flags.{by_order, by_test}
use Rattle.varint.specs.Groups.{read_at}
use Rattle.varint.specs.Codes.{number_of}
use Rattle.text.specs.Text.{Stored}
use Rattle.records.specs.Records.{State, slot_count}
use Rattle.layout.specs.View.{state_of}
use Rattle.effects.specs.Actions.{numbers_of}
use Rattle.effects.proofs.ActionLaws.{numbers_length}
use Rattle.rules.specs.declared.Answer.{Answer}
use Rattle.rules.specs.Reply.{Reply, actions_of}
use Rattle.rules.specs.Calls.{Call, connect, rate, heartbeat, score}
use Rattle.rules.specs.Step.{step, action_room}
use Rattle.rules.specs.Promise.{Follows}
use Rattle.rules.proofs.CountLaws.{Counted, counted}
use Rattle.trace_events.specs.declared.NumberError.{NumberError}
use Rattle.trace_events.specs.declared.Edition.{Edition}
use Rattle.trace_events.specs.declared.Edition.TheVariants.{First, Second, Third}
use Rattle.trace_events.specs.Reading.{order_size, widened, Numbers, numbers, broken, numbers_from, outcome, arity, call_of, Event, event}
use Rattle.trace_events.specs.Reading.{unknown, malformed, short, cut_short, unread, name_most, named, group_most, grouped, counted as many}
use Rattle.trace_events.specs.Reading.{connecting, ordered, of_numbers, of_kind, event_at}
use Rattle.trace_events.specs.Lines.{pair_line, lines_of, reply_text, line_room}
use Rattle.trace_events.proofs.LineLaws.{lines_are}
use Rattle.trace_step.specs.declared.Replayed.{Replayed}
use Rattle.trace_step.specs.declared.Replayed.TheVariants.{Called, Stopped, Short, Full}
use Rattle.trace_step.specs.Replay.{idle, perform_event, Performs, stopped, replay_event, replay_of, Replays}

-- the front of a front
take_front : (n m : ℕ) (l : List ℕ) → n ≤ m → take n (take m l) ≡ take n l
take_front zero m l h = refl
take_front (suc n) zero l h = absurd (omega arith)
take_front (suc n) (suc m) [] h = refl
take_front (suc n) (suc m) (x ∷ l) h = ap (λ (k : List ℕ). x ∷ k) (take_front n m l (omega arith))

-- an array of zeros
pub zeros : (m k : ℕ) → ◌≡◌ {A = ℕ} (get_or (replicate m 0) k 0) 0
zeros zero k = refl
zeros (suc m) zero = refl
zeros (suc m) (suc k) = zeros m k

-- ---- the call of the numbers that were read is the call of the array that holds them: its numbers past them are 0
module _ (n : ℕ) (v : List ℕ) (z : (k : ℕ) → n ≤ k → get_or v k 0 ≡ 0) where
  take_same : (i : ℕ) → get_or (take n v) i 0 ≡ get_or v i 0
  take_same i =
      by_order (get_or (take n v) i 0 ≡ get_or v i 0) i n
      (λ h. get_or-take n v i 0 h)
      (λ h. get_or-eq_default (take n v) 0 (omega (arith, length-take n v)) ∙ sym (z i h))

  connect_take : (g : Edition) (s : List ℕ) (next : ℕ) → connecting g s (take n v) next ≡ connecting g s v next
  connect_take First s next = rw (take_same 0, take_same 1, take_same 2, take_same 3, take_same 4)
  connect_take Second s next = rw (take_same 0, take_same 1, take_same 2, take_same 3, take_same 4)
  connect_take Third s next =
      rw (take_same 2) (ap (λ (x : Event). cond (leb (get_or v 2 0) group_most) x malformed) (go (numbers_from (get_or v 2 0 + 2) s next)))
    where
      go : (q : Numbers) → grouped s (take n v) q ≡ grouped s v q
      go (numbers vs m) = rw (take_same 0, take_same 1, take_same 2)
      go (broken p) = refl

  order_take : (s : List ℕ) (q : Numbers) → ordered s (take n v) q ≡ ordered s v q
  unfolding call_of
  order_take s (numbers order next) = rw (take_same 0, take_same 1, take_same 2)
  order_take s (broken p) = refl

  call_of_take : (kind : ℕ) → call_of kind (take n v) [] ≡ call_of kind v []
  unfolding call_of
  call_of_take kind = rw (take_same 0, take_same 1, take_same 2, take_same 3)

-- ---- which call a kind is
module _ (kind : ℕ) (v : List ℕ) where
  -- z is what the code computed of P5's number; the call reads it back from its bits
  pub call_10 :
      (z : ℤ) →
      SFits w64 z →
      z ≡ number_of (get_or v 2 0) →
      kind ≡ 10 →
      call_of kind v [] ≡ rate (get_or v 0 0) (get_or v 1 0) (to_z w64 (of_z w64 z))
  unfolding call_of
  call_10 z g f e = rw (to_z-of_z g, e, f)

  pub call_score :
      kind ≢ 2 → kind ≢ 3 → kind ≢ 4 → kind ≢ 5 → kind ≢ 6 → kind ≢ 7 → kind ≢ 8 → kind ≢ 9 → kind ≢ 10 → kind ≢ 11 → kind ≢ 12 →
      call_of kind v [] ≡ score (get_or v 0 0) (get_or v 1 0)
  unfolding call_of
  call_score b c d e f g h i j k l =
      rw (
        ne_eqb kind 2 b,
        ne_eqb kind 3 c,
        ne_eqb kind 4 d,
        ne_eqb kind 5 e,
        ne_eqb kind 6 f,
        ne_eqb kind 7 g,
        ne_eqb kind 8 h,
        ne_eqb kind 9 i,
        ne_eqb kind 10 j,
        ne_eqb kind 11 k,
        ne_eqb kind 12 l,
      )

-- the promise of the call that a kind is
pub follows_as :
    (c d : Call) (r : Answer) (table table' list list' : List ℕ) →
    c ≡ d →
    Follows d r table table' list list' →
    Follows c r table table' list list'
follows_as c d r table table' list list' e f = rw e f

-- the kind is known, and with it the call
pub follows_kind :
    (kind n : ℕ) (v : List ℕ) (r : Answer) (table table' list list' : List ℕ) →
    kind ≡ n →
    Follows (call_of n v []) r table table' list list' →
    Follows (call_of kind v []) r table table' list list'
follows_kind kind n v r table table' list list' e f = rw e f

-- ---- one event
-- its call was made
performed :
    (c : Call) (a : Answer) (table table' list list' : List ℕ) (next : ℕ) →
    Follows c a table table' list list' →
    Performs (perform_event (state_of table) (length list) (event c next)) (Ok (next, a)) table' list list'
unfolding perform_event
performed c a table table' list list' next f =
    record { answer = ap (λ (b : Answer). Ok (next, b)) f.leaves.answer; state = f.leaves.state; actions = f.actions }

-- nothing was done
idles : (table list : List ℕ) (r : Result (ℕ × Answer) EventError) → Performs (idle (state_of table) r) r table list list
unfolding numbers_of
idles table list r = record { answer = refl; state = refl; actions = refl }

as_event :
    (st : State) (room : ℕ) (x y : Event) (r : Result (ℕ × Answer) EventError) (table' list list' : List ℕ) →
    x ≡ y →
    Performs (perform_event st room y) r table' list list' →
    Performs (perform_event st room x) r table' list list'
as_event st room x y r table' list list' e h = rw e h

-- a number that cannot be read
unread_is :
    (s : List ℕ) (at : ℕ) (x : EventError) (table list : List ℕ) →
    x ≡ cond (cut_short s at) CutShort Malformed →
    Performs (perform_event (state_of table) (length list) (unread s at)) (Err x) table list list
unfolding perform_event
unread_is s at x table list e =
    by_test
    (Performs (perform_event (state_of table) (length list) (unread s at)) (Err x) table list list)
    (cut_short s at)
    (λ k. rw (e, k) (idles table list (Err CutShort)))
    (λ k. rw (e, k) (idles table list (Err Malformed)))

-- ---- the ends of `connect`
module _ (s : List ℕ) (time id : ℕ) (groups : List ℕ) (flags size at : ℕ) where
  abbrev here : Event
  here = named s time id groups flags size at

  named_long : name_most < size → here ≡ malformed
  unfolding named
  named_long h = rw (lt-leb size name_most h)

  named_short : size ≤ name_most → length s < at + size → here ≡ short
  unfolding named
  named_short h l = rw (le-leb size name_most h, lt-leb (at + size) (length s) l)

  named_whole :
      size ≤ name_most →
      at + size ≤ length s →
      here ≡ event (connect time id groups flags (take size (drop at s))) (at + size)
  unfolding named
  named_whole h l = rw (le-leb size name_most h, le-leb (at + size) (length s) l)

  pub connect_long :
      (table list : List ℕ) → name_most < size → Performs (perform_event (state_of table) (length list) here) (Err Malformed) table list list
  unfolding perform_event
  connect_long table list h =
      as_event (state_of table) (length list) here malformed (Err Malformed) table list list (named_long h) (idles table list (Err Malformed))

  pub connect_short :
      (table list : List ℕ) →
      size ≤ name_most →
      length s < at + size →
      Performs (perform_event (state_of table) (length list) here) (Err CutShort) table list list
  unfolding perform_event
  connect_short table list h l =
      as_event (state_of table) (length list) here short (Err CutShort) table list list (named_short h l) (idles table list (Err CutShort))

  pub connect_called :
      (a : Answer) (table table' list list' : List ℕ) →
      size ≤ name_most →
      at + size ≤ length s →
      Follows (connect time id groups flags (take (at + size - at) (drop at s))) a table table' list list' →
      Performs (perform_event (state_of table) (length list) here) (Ok (at + size, a)) table' list list'
  connect_called a table table' list list' h l f =
      let e : at + size - at ≡ size = omega arith in
      as_event (state_of table) (length list) here _ _ table' list list' (named_whole h l)
      (performed _ a table table' list list' (at + size) (rw e at f))

-- ---- numbers that were read into a lent list
module _ (s : List ℕ) (at n : ℕ) (us : Result ℕ NumberError) (v : List ℕ) (e : outcome n us v ≡ numbers_from n s at) where
  read_whole : (next : ℕ) → us ≡ Ok next → numbers_from n s at ≡ numbers (take n v) next
  read_whole next g = sym e ∙ ap (λ (r : Result ℕ NumberError). outcome n r v) g

  read_broken : (y : NumberError) → us ≡ Err y → numbers_from n s at ≡ broken y.place
  read_broken y g = sym e ∙ ap (λ (r : Result ℕ NumberError). outcome n r v) g

-- ---- the ends of `counted`
module _ (s v : List ℕ) (at : ℕ) where
  pub counted_many : (table list : List ℕ) → group_most < get_or v 2 0 →
      Performs (perform_event (state_of table) (length list) (many s v at)) (Err Malformed) table list list
  unfolding perform_event
  counted_many table list h =
      as_event (state_of table) (length list) (many s v at) malformed (Err Malformed) table list list
      (ap (λ (b : Bool). cond b (grouped s v (numbers_from (get_or v 2 0 + 2) s at)) malformed) (lt-leb (get_or v 2 0) group_most h))
      (idles table list (Err Malformed))

  module _ (few : get_or v 2 0 ≤ group_most) (us : Result ℕ NumberError) (w : List ℕ)
      (e : outcome (get_or v 2 0 + 2) us w ≡ numbers_from (get_or v 2 0 + 2) s at) where
    at_groups :
        (q : Numbers) (table table' list list' : List ℕ) (r : Result (ℕ × Answer) EventError) →
        numbers_from (get_or v 2 0 + 2) s at ≡ q →
        Performs (perform_event (state_of table) (length list) (grouped s v q)) r table' list list' →
        Performs (perform_event (state_of table) (length list) (many s v at)) r table' list list'
    at_groups q table table' list list' r f p =
        as_event (state_of table) (length list) (many s v at) (grouped s v q) r table' list list'
        (ap₂ (λ (b : Bool) (x : Numbers). cond b (grouped s v x) malformed) (le-leb (get_or v 2 0) group_most few) f) p

    pub counted_unread :
        (table list : List ℕ) (y : NumberError) (x : EventError) →
        us ≡ Err y →
        x ≡ cond (cut_short s y.place) CutShort Malformed →
        Performs (perform_event (state_of table) (length list) (many s v at)) (Err x) table list list
    counted_unread table list y x f h =
        at_groups (broken y.place) table table list list (Err x) (read_broken s at (get_or v 2 0 + 2) us w e y f)
        (unread_is s y.place x table list h)

    -- what was read behind the count
    pub counted_called :
        (table table' list list' : List ℕ) (r : Result (ℕ × Answer) EventError) (next : ℕ) →
        us ≡ Ok next →
        Performs (perform_event (state_of table) (length list)
        (named s (get_or v 0 0) (get_or v 1 0) (take (get_or v 2 0) w) (get_or w (get_or v 2 0) 0) (get_or w (get_or v 2 0 + 1) 0) next)) r table'
        list list' →
        Performs (perform_event (state_of table) (length list) (many s v at)) r table' list list'
    counted_called table table' list list' r next f p =
        let n : ℕ = get_or v 2 0 in
        at_groups (numbers (take (n + 2) w) next) table table' list list' r (read_whole s at (n + 2) us w e next f)
        (rw (take_front n (n + 2) w (omega arith), get_or-take (n + 2) w n 0 (omega arith), get_or-take (n + 2) w (n + 1) 0 (omega arith)) p)

-- ---- the ends of `connecting`
pub connecting_as :
    (g h : Edition) (s v : List ℕ) (at : ℕ) (table table' list list' : List ℕ) (r : Result (ℕ × Answer) EventError) →
    g ≡ h →
    Performs (perform_event (state_of table) (length list) (connecting h s v at)) r table' list list' →
    Performs (perform_event (state_of table) (length list) (connecting g s v at)) r table' list list'
connecting_as g h s v at table table' list list' r e p = rw e p

-- ---- the ends of `heartbeat`
module _ (s v : List ℕ) (at n : ℕ) (g : Edition) (told : n ≡ order_size g) (us : Result ℕ NumberError) (order : List ℕ)
    (e : outcome n us order ≡ numbers_from n s at) where
  at_order :
      (q : Numbers) (table table' list list' : List ℕ) (r : Result (ℕ × Answer) EventError) →
      numbers_from n s at ≡ q →
      Performs (perform_event (state_of table) (length list) (ordered s v q)) r table' list list' →
      Performs (perform_event (state_of table) (length list) (ordered s v (numbers_from (order_size g) s at))) r table' list list'
  at_order q table table' list list' r f p =
      as_event (state_of table) (length list) (ordered s v (numbers_from (order_size g) s at)) (ordered s v q) r table' list list'
      (ap (ordered s v) (ap (λ (k : ℕ). numbers_from k s at) (sym told) ∙ f)) p

  pub heartbeat_unread :
      (table list : List ℕ) (y : NumberError) (x : EventError) →
      us ≡ Err y →
      x ≡ cond (cut_short s y.place) CutShort Malformed →
      Performs (perform_event (state_of table) (length list) (ordered s v (numbers_from (order_size g) s at))) (Err x) table list list
  heartbeat_unread table list y x f h =
      at_order (broken y.place) table table list list (Err x) (read_broken s at n us order e y f) (unread_is s y.place x table list h)

  pub heartbeat_called :
      (wide : List ℕ) (a : Answer) (table table' list list' : List ℕ) (next : ℕ) →
      us ≡ Ok next →
      wide ≡ widened (take n order) →
      Follows (heartbeat (get_or v 0 0) (get_or v 1 0) (get_or v 2 0) wide) a table table' list list' →
      Performs (perform_event (state_of table) (length list) (ordered s v (numbers_from (order_size g) s at))) (Ok (next, a)) table'
      list list'
  unfolding call_of
  heartbeat_called wide a table table' list list' next f w p =
      at_order (numbers (take n order) next) table table' list list' (Ok (next, a)) (read_whole s at n us order e next f)
      (performed _ a table table' list list' next (rw w at p))

-- ---- the ends of `perform_kind`
module _ (g : Edition) (s : List ℕ) (kind at n : ℕ) (us : Result ℕ NumberError) (v : List ℕ) (e : outcome n us v ≡ numbers_from n s at) where
  pub kind_unread :
      (table list : List ℕ) (y : NumberError) (x : EventError) →
      us ≡ Err y →
      x ≡ cond (cut_short s y.place) CutShort Malformed →
      Performs (perform_event (state_of table) (length list) (of_numbers g s kind (numbers_from n s at))) (Err x) table list list
  kind_unread table list y x f h =
      as_event (state_of table) (length list) (of_numbers g s kind (numbers_from n s at)) (unread s y.place) (Err x) table list list
      (ap (of_numbers g s kind) (read_broken s at n us v e y f))
      (unread_is s y.place x table list h)

  module _ (z : (k : ℕ) → n ≤ k → get_or v k 0 ≡ 0) (after : ℕ) (f : us ≡ Ok after) where
    whole : numbers_from n s at ≡ numbers (take n v) after
    whole = read_whole s at n us v e after f

    pub kind_connect :
        (table table' list list' : List ℕ) (r : Result (ℕ × Answer) EventError) →
        kind ≡ 1 →
        Performs (perform_event (state_of table) (length list) (connecting g s v after)) r table' list list' →
        Performs (perform_event (state_of table) (length list) (of_numbers g s kind (numbers_from n s at))) r table' list list'
    kind_connect table table' list list' r k h =
        as_event (state_of table) (length list) (of_numbers g s kind (numbers_from n s at)) (connecting g s v after) r table' list list'
        (ap₂ (of_numbers g s) k whole ∙ connect_take n v z g s after)
        h

    pub kind_heartbeat :
        (table table' list list' : List ℕ) (r : Result (ℕ × Answer) EventError) →
        kind ≡ 11 →
        Performs (perform_event (state_of table) (length list) (ordered s v (numbers_from (order_size g) s after))) r table' list list' →
        Performs (perform_event (state_of table) (length list) (of_numbers g s kind (numbers_from n s at))) r table' list list'
    kind_heartbeat table table' list list' r k h =
        as_event (state_of table) (length list) (of_numbers g s kind (numbers_from n s at))
        (ordered s v (numbers_from (order_size g) s after)) r table' list list'
        (ap₂ (of_numbers g s) k whole ∙ order_take n v z s (numbers_from (order_size g) s after))
        h

    pub kind_other :
        (table table' list list' : List ℕ) (a : Answer) →
        kind ≢ 1 →
        kind ≢ 11 →
        Follows (call_of kind v []) a table table' list list' →
        Performs (perform_event (state_of table) (length list) (of_numbers g s kind (numbers_from n s at))) (Ok (after, a)) table' list
        list'
    kind_other table table' list list' a k m p =
        as_event (state_of table) (length list) (of_numbers g s kind (numbers_from n s at)) (event (call_of kind v []) after) _ table'
        list list'
        (ap (of_numbers g s kind) whole
        ∙ rw (ne_eqb kind 1 k, ne_eqb kind 11 m) (ap (λ (c : Call). event c after) (call_of_take n v z kind)))
        (performed (call_of kind v []) a table table' list list' after p)

-- ---- the ends of `perform`
module _ (g : Edition) (s : List ℕ) (at : ℕ) (q : Option (ℕ × ℕ)) (e : q ≡ read_at 18446744073709551615 s at) where
  at_kind :
      (x : Event) (table table' list list' : List ℕ) (r : Result (ℕ × Answer) EventError) →
      of_kind g s at q ≡ x →
      Performs (perform_event (state_of table) (length list) x) r table' list list' →
      Performs (perform_event (state_of table) (length list) (event_at g s at)) r table' list list'
  unfolding event_at
  at_kind x table table' list list' r f p =
      as_event (state_of table) (length list) (event_at g s at) x r table' list list' (ap (of_kind g s at) (sym e) ∙ f) p

  pub perform_bad :
      (table list : List ℕ) (x : EventError) →
      q ≡ None →
      x ≡ cond (cut_short s at) CutShort Malformed →
      Performs (perform_event (state_of table) (length list) (event_at g s at)) (Err x) table list list
  perform_bad table list x f h =
      at_kind (unread s at) table table list list (Err x) (ap (of_kind g s at) f) (unread_is s at x table list h)

  pub perform_unknown :
      (table list : List ℕ) (kind next n : ℕ) →
      q ≡ Some (kind, next) →
      n ≡ arity g kind →
      n ≡ 0 →
      Performs (perform_event (state_of table) (length list) (event_at g s at)) (Err Unknown) table list list
  unfolding perform_event
  perform_unknown table list kind next n f a z =
      at_kind unknown table table list list (Err Unknown)
      (ap (of_kind g s at) f ∙ ap (λ (k : ℕ). cond (eqb k 0) unknown (of_numbers g s kind (numbers_from (arity g kind) s next))) (sym a ∙ z))
      (idles table list (Err Unknown))

  pub perform_known :
      (table table' list list' : List ℕ) (r : Result (ℕ × Answer) EventError) (kind next n : ℕ) →
      q ≡ Some (kind, next) →
      n ≡ arity g kind →
      n ≢ 0 →
      Performs (perform_event (state_of table) (length list) (of_numbers g s kind (numbers_from n s next))) r table' list list' →
      Performs (perform_event (state_of table) (length list) (event_at g s at)) r table' list list'
  perform_known table table' list list' r kind next n f a z p =
      at_kind (of_numbers g s kind (numbers_from n s next)) table table' list list' r
      (ap (of_kind g s at) f
      ∙ ap (λ (k : ℕ). cond (eqb k 0) unknown (of_numbers g s kind (numbers_from k s next))) (sym a)
      ∙ ap (λ (b : Bool). cond b unknown (of_numbers g s kind (numbers_from n s next))) (ne_eqb n 0 z))
      p

-- ---- the ends of `replay`
pub replay_full : (g : Edition) (table s : List ℕ) (at : ℕ) (out : List ℕ) → length out < line_room →
    Replays (replay_of g (state_of table) s at out) Full table out
unfolding replay_of
replay_full g table s at out h =
    rw (lt-ltb (length out) line_room h) (record { answer = refl; state = refl; bytes = refl; room = omega arith })

-- what a reply prints
text_is :
    (o : Reply) (a : Answer) (list list' : List ℕ) →
    action_room ≤ length list →
    Counted o →
    a ≡ o.answer →
    list' ≡ sets list 0 (numbers_of o.actions) →
    reply_text a list' ≡ lines_of o
text_is o a list list' h k e f =
    ap₂ reply_text e f ∙ lines_are o list k.counts (omega (arith, numbers_length o.actions, k.few))

-- the answer tells which event it was
module _ (st : State) (room : ℕ) where
  abbrev pub Told : Event → Result (ℕ × Answer) EventError → Type 0
  Told x (Ok (next, a)) = (c : Call) × (x ≡ event c next) × (a ≡ (step st c room).answer)
  Told x (Err Unknown) = x ≡ unknown
  Told x (Err Malformed) = x ≡ malformed
  Told x (Err CutShort) = x ≡ short

  told_self : (x : Event) → Told x (perform_event st room x).answer
  unfolding perform_event
  told_self (event c next) = (c, refl, refl)
  told_self unknown = refl
  told_self malformed = refl
  told_self short = refl

  pub told : (x : Event) (r : Result (ℕ × Answer) EventError) → r ≡ (perform_event st room x).answer → Told x r
  told x r e = rw e (told_self x)

module _ (st : State) (table' list list' : List ℕ) (x : Event) (r : Result (ℕ × Answer) EventError)
    (p : Performs (perform_event st (length list) x) r table' list list') where
  told_as : (q : Result (ℕ × Answer) EventError) → r ≡ q → Told st (length list) x q
  told_as q e = told st (length list) x q (sym e ∙ p.answer)

  pub few_actions : (next : ℕ) (a : Answer) → r ≡ Ok (next, a) → actions_of a ≤ slot_count
  few_actions next a e =
      let t = told_as (Ok (next, a)) e in
      let k = counted st t.0 (length list) in
      omega (arith, ap actions_of t.2, k.counts, k.few)

  module _ (out out' : List ℕ) where
    pub event_called :
        (next n : ℕ) (a : Answer) →
        length list ≡ action_room →
        r ≡ Ok (next, a) →
        Stored out 0 (reply_text a list') n out' × (n ≤ line_room) →
        Replays (replay_event st out x) (Called next n) table' out'
    unfolding perform_event
    event_called next n a l e s =
        let t = told_as (Ok (next, a)) e in
        let o : Reply = step st t.0 action_room in
        let p' : Performs (perform_event st action_room (event t.0 next)) r table' list list' = rw (l, t.1) at p in
        let b : a ≡ o.answer = rw l at t.2 in
        let f = text_is o a list list' (omega arith) (counted st t.0 action_room) b p'.actions in
        let m : n ≡ length (lines_of o) = s.0.0 ∙ zero-add (length (reply_text a list')) ∙ ap length f in
        rw t.1
        (record {
          answer = ap (Called next) m;
          state = p'.state;
          bytes = s.0.1 ∙ ap (λ (k : List ℕ). sets out 0 k) f;
          room = s.1;
        })

    event_stopped :
        (y : Event) (n m : ℕ) →
        x ≡ y →
        (perform_event st (length list) y).state ≡ st →
        replay_event st out y ≡ stopped st n out →
        Stored out 0 (pair_line n 0) m out' × (m ≤ 42) →
        Replays (replay_event st out x) (Stopped m) table' out'
    unfolding perform_event
    event_stopped y n m e f g s =
        let i : m ≡ length (pair_line n 0) = s.0.0 ∙ zero-add (length (pair_line n 0)) in
        rw (e, g)
        (record {
          answer = ap Stopped i;
          state = p.state ∙ ap (λ (w : Event). (perform_event st (length list) w).state) e ∙ f;
          bytes = s.0.1;
          room = omega (arith, s.1);
        })

    pub event_unknown :
        (m : ℕ) → r ≡ Err Unknown → Stored out 0 (pair_line 2 0) m out' × (m ≤ 42) → Replays (replay_event st out x) (Stopped m) table' out'
    unfolding perform_event
    event_unknown m e s = event_stopped unknown 2 m (told_as (Err Unknown) e) refl refl s

    pub event_malformed :
        (m : ℕ) → r ≡ Err Malformed → Stored out 0 (pair_line 10 0) m out' × (m ≤ 42) → Replays (replay_event st out x) (Stopped m) table' out'
    unfolding perform_event
    event_malformed m e s = event_stopped malformed 10 m (told_as (Err Malformed) e) refl refl s

  pub event_short : (out : List ℕ) → r ≡ Err CutShort → Replays (replay_event st out x) Short table' out
  unfolding perform_event
  event_short out e =
      let t = told_as (Err CutShort) e in
      rw t
      (record {
        answer = refl;
        state = p.state ∙ ap (λ (w : Event). (perform_event st (length list) w).state) t;
        bytes = refl;
        room = omega arith;
      })

pub replay_event_lem :
    (g : Edition) (st : State) (table' s : List ℕ) (at : ℕ) (out out' : List ℕ) (r : Replayed) →
    line_room ≤ length out →
    Replays (replay_event st out (event_at g s at)) r table' out' →
    Replays (replay_of g st s at out) r table' out'
unfolding replay_of
replay_event_lem g st table' s at out out' r h p = rw (le-ltb (length out) line_room h) p
