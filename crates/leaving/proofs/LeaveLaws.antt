-- Leave's walk: what a turn leaves of the other slots, so that a turn from the state as it stands is the rules' turn, which goes by the
-- state at the start; and the list of actions, turn by turn.
-- Assumes nothing.
use Prim.Native.Nat.{ℕ, ◌+◌, ◌*◌, ◌/◌, ◌≤◌, ◌<◌}
use native.Mathlib.Omega.{arith}
use mathlib.Core.Path.{◌≡◌, refl, sym, ap, ap₂, ◌∙◌}
use mathlib.Core.Logic.{◌≢◌}
use mathlib.Core.Bool.{Bool, true, false, cond, ◌&&◌}
use mathlib.Core.List.{List, [], ◌∷◌, ◌++◌}
use lib.ListN.{length, get_or, length-append}
use lib.Seq.{sets, length-sets}
use Rattle.index.specs.Index.{iter, gather}
use Rattle.index.proofs.Index.{iter_more, gather_more}
use Rattle.index.proofs.Flags.{by_test, cond_case}
use Rattle.index.proofs.Lists.{sets_append}
use Rattle.records.specs.declared.Peer.{Peer}
use Rattle.records.specs.declared.TopicRecord.{TopicRecord}
use Rattle.records.specs.Records.{State, slot_count, place, code_in, peer_in, topic_in, set_clock, set_joined, set_topic}
use Rattle.layout.specs.View.{cell_count, state_of, TopicFits}
use Rattle.layout.proofs.StateLaws.{peer_after_topic}
use Rattle.validity.proofs.ValidLaws.{valid_facts}
use Rattle.score.specs.declared.TopicParams.{TopicParams}
use Rattle.score.specs.Score.{topic_params_in}
use Rattle.score.specs.Counters.{grown_of}
use Rattle.score.proofs.InputLaws.{params_in}
use Rattle.effects.specs.Actions.{Action, prune_of, numbers_of}
use Rattle.effects.specs.Effects.{on_topic, is_member, pruned, end_after, unsubscribe_backoff}
use Rattle.effects.proofs.Walks.{iter_before}
use Rattle.effects.proofs.ActionLaws.{numbers_append, numbers_length}
use Rattle.effects.proofs.EffectLaws.{Kept, kept_self, kept_then, kept_pruned, kept_iter, place_slot, pruned_other, pruned_apart}
use Rattle.rules.specs.declared.Answer.TheVariants.{Done}
use Rattle.rules.specs.Reply.{done}
use Rattle.rules.specs.Step.{is_negative, punished, leave_slot, leave_actions}
use Rattle.rules.specs.Promise.{Gives}
use Rattle.rules.proofs.PunishedLaws.{punished_peer, punished_apart, punished_kept}
use Rattle.rules.proofs.PromiseLaws.{leaves_moved}
use Rattle.rules.proofs.CountLaws.{actions_short}
use Rattle.gate.proofs.StandingLaws.{sizes}
use Rattle.leaving.specs.Slots.{grown_if, left_if, action_if, Turned, Walk, Walked, LeaveTurn}

-- a flag that goes with another
pub no_member : (m n : Bool) → m ≡ false → false ≡ m && n
no_member m n e = rw e

pub of_member : (m n r : Bool) → m ≡ true → r ≡ n → r ≡ m && n
of_member m n r e f = rw e f

-- ---- the rules' turn at slot i, seen from another slot j

module _ (st : State) (t : ℕ) (k : t < 8) where
  module _ (end : ℕ) where
    turn_peer : (j i : ℕ) (u : State) → i ≢ j → peer_in (leave_slot st t end i u) j ≡ peer_in u j
    unfolding leave_slot
    turn_peer j i u n =
        cond_case
        (λ (v : State). peer_in v j ≡ peer_in u j)
        (is_member st t i)
        (pruned (punished st t i u) i t end)
        u
        (λ e. pruned_other (punished st t i u) i t end j (λ z. n (sym z)) ∙ punished_peer st t i u j)
        (λ e. refl)

    turn_member : (j i : ℕ) (u : State) → i ≢ j → is_member (leave_slot st t end i u) t j ≡ is_member u t j
    unfolding leave_slot
    turn_member j i u n =
        cond_case
        (λ (v : State). is_member v t j ≡ is_member u t j)
        (is_member st t i)
        (pruned (punished st t i u) i t end)
        u
        (λ e.
        pruned_apart (punished st t i u) i t end j t (place_slot i t j t k k (λ z. n (sym z)))
        ∙ punished_apart st t i u j t (place_slot i t j t k k (λ z. n (sym z))))
        (λ e. refl)

    turn_kept : (i : ℕ) (u : State) → Kept u (leave_slot st t end i u)
    unfolding leave_slot
    turn_kept i u =
        cond_case
        (λ (v : State). Kept u v)
        (is_member st t i)
        (pruned (punished st t i u) i t end)
        u
        (λ e. kept_then (punished_kept st t i u) (kept_pruned (punished st t i u) i t end))
        (λ e. kept_self u)

    -- ---- the state before turn i: slot i is as it was at the start

    walk_peer : (i : ℕ) → peer_in (iter i (leave_slot st t end) st) i ≡ peer_in st i
    walk_peer i = iter_before (λ v. peer_in v i) (leave_slot st t end) i (turn_peer i) i st (omega arith)

    walk_member : (i : ℕ) → is_member (iter i (leave_slot st t end) st) t i ≡ is_member st t i
    walk_member i = iter_before (λ v. is_member v t i) (leave_slot st t end) i (turn_member i) i st (omega arith)

    walk_codes : (i : ℕ) → (iter i (leave_slot st t end) st).codes ≡ st.codes
    walk_codes i = (kept_iter (leave_slot st t end) i st turn_kept).codes

pub params_same : (a b : State) (t : ℕ) → b.codes ≡ a.codes → topic_params_in b t ≡ topic_params_in a t
unfolding topic_params_in code_in
params_same a b t e = rw e

same_turn :
    (u : State) (s t end : ℕ) (f g m n : Bool) (p q : TopicParams) →
    f ≡ g →
    m ≡ n →
    p ≡ q →
    cond m (pruned (cond f (on_topic u s t (grown_of p)) u) s t end) u
    ≡ cond n (pruned (cond g (on_topic u s t (grown_of q)) u) s t end) u
same_turn u s t end f g m n p q a b c = rw (a, b, c)

same_action :
    (m n : Bool) (p q : Peer) (a b : ℕ) →
    m ≡ n →
    p ≡ q →
    a ≡ b →
    ◌≡◌ {A = List Action} (cond m (prune_of p a ∷ []) []) (cond n (prune_of q b ∷ []) [])
same_action m n p q a b e f g = rw (e, f, g)

-- actions after others
numbers_join :
    (list : List ℕ) (a b : List Action) (at : ℕ) →
    at ≡ 3 * length a →
    sets (sets list 0 (numbers_of a)) at (numbers_of b) ≡ sets list 0 (numbers_of (a ++ b))
numbers_join list a b at e =
    let z : at ≡ 0 + length (numbers_of a) = omega (arith, numbers_length a) in
    rw z (sym (ap (sets list 0) (numbers_append a b) ∙ sets_append list 0 (numbers_of a) (numbers_of b)))

-- ---- one turn from the state as it stands

pub grown_then :
    (u v : State) (f : Bool) (t s : ℕ) (p : TopicParams) (r q : TopicRecord) →
    f ≡ true →
    r ≡ topic_in u (place s t) →
    p ≡ topic_params_in u t →
    q ≡ grown_of p r →
    v ≡ set_topic u (place s t) q →
    v ≡ grown_if f t s u
unfolding grown_if
grown_then u v f t s p r q e er ep eq ev =
    rw e (ev ∙ ap (set_topic u (place s t)) (eq ∙ ap₂ grown_of ep er))

pub grown_fits : (p : TopicParams) (r q : TopicRecord) → TopicFits r → q ≡ grown_of p r → TopicFits q
unfolding grown_of
grown_fits p r q f e =
    rw e (record {
      p2 = f.p2;
      p3 = f.p3;
      p4 = f.p4;
      subscribed = f.subscribed;
      member = f.member;
      graft = f.graft;
      mesh = f.mesh;
    })

pub grown_else : (u : State) (f : Bool) (t s : ℕ) → f ≡ false → u ≡ grown_if f t s u
unfolding grown_if
grown_else u f t s e = rw e

pub grown_peer : (f : Bool) (t s : ℕ) (u : State) (j : ℕ) → peer_in (grown_if f t s u) j ≡ peer_in u j
unfolding grown_if
grown_peer f t s u j =
    cond_case
    (λ (v : State). peer_in v j ≡ peer_in u j)
    f
    (on_topic u s t (grown_of (topic_params_in u t)))
    u
    (λ e. peer_after_topic u (place s t) _ j)
    (λ e. refl)

pub grown_id :
    (u v : State) (f : Bool) (t s : ℕ) (p : Peer) → v ≡ grown_if f t s u → p ≡ peer_in v s → p.id ≡ (peer_in u s).id
grown_id u v f t s p e h =
    ap (λ (x : Peer). x.id) (h ∙ ap (λ (w : State). peer_in w s) e ∙ grown_peer f t s u s)

-- the slot is no member
pub turned_past :
    (table list : List ℕ) (f : Bool) (t end seconds s at : ℕ) →
    is_member (state_of table) t s ≡ false →
    Turned (state_of table) f t end seconds s table list list at at
unfolding left_if action_if numbers_of
turned_past table list f t end seconds s at e =
    record { state = rw e; actions = rw e; after = rw e (omega arith) }

-- it is one: `mid` is the table after the counters grew
pub turned_out :
    (table mid table' list list' : List ℕ) (f : Bool) (t end seconds s at next : ℕ) (p : Peer) →
    is_member (state_of table) t s ≡ true →
    state_of mid ≡ grown_if f t s (state_of table) →
    p ≡ peer_in (state_of mid) s →
    state_of table' ≡ pruned (state_of mid) s t end →
    (next ≡ at + 3) × (list' ≡ sets list at (numbers_of (prune_of p seconds ∷ []))) →
    Turned (state_of table) f t end seconds s table' list list' at next
unfolding left_if action_if
turned_out table mid table' list list' f t end seconds s at next p e m ep h r =
    let q : p ≡ peer_in (state_of table) s = ep ∙ ap (λ (v : State). peer_in v s) m ∙ grown_peer f t s (state_of table) s in
    record {
      state = rw e (h ∙ ap (λ (v : State). pruned v s t end) m);
      actions = rw e (r.1 ∙ ap (λ (x : Peer). sets list at (numbers_of (prune_of x seconds ∷ []))) q);
      after = rw e r.0;
    }

-- ---- the walk

-- before turn i: st is the state at the start, `start` the list as it was lent
pub record Walking (st : State) (start : List ℕ) (t end i : ℕ) (table list : List ℕ) (at : ℕ) : Type 0 where
  pub size : length table ≡ cell_count
  pub state : state_of table ≡ iter i (leave_slot st t end) st
  pub actions : list ≡ sets start 0 (numbers_of (leave_actions st t i))
  pub place : at ≡ 3 * length (leave_actions st t i)

pub walking_length :
    (st : State) (start : List ℕ) (t end i : ℕ) (table list : List ℕ) (at : ℕ) →
    Walking st start t end i table list at →
    length list ≡ length start
walking_length st start t end i table list at now =
    ap length now.actions ∙ length-sets start 0 (numbers_of (leave_actions st t i))

pub walking_none :
    (table start : List ℕ) (t end : ℕ) → length table ≡ cell_count → Walking (state_of table) start t end 0 table start 0
unfolding iter numbers_of leave_actions gather
walking_none table start t end l = record { size = l; state = refl; actions = refl; place = refl }

module _ (st : State) (t end : ℕ) (k : t < 8) (i : ℕ) (u : State) (w : u ≡ iter i (leave_slot st t end) st) where
  as_member : is_member u t i ≡ is_member st t i
  as_member = ap (λ (v : State). is_member v t i) w ∙ walk_member st t k end i

  pub as_peer : peer_in u i ≡ peer_in st i
  as_peer = ap (λ (v : State). peer_in v i) w ∙ walk_peer st t k end i

  pub as_params : topic_params_in u t ≡ topic_params_in st t
  as_params = params_same st u t (ap (λ (v : State). v.codes) w ∙ walk_codes st t k end i)

  as_turn : (f : Bool) → f ≡ is_member st t i && is_negative st i → left_if f t end i u ≡ leave_slot st t end i u
  unfolding left_if grown_if leave_slot punished
  as_turn f e =
      by_test (left_if f t end i u ≡ leave_slot st t end i u) (is_member st t i)
      (λ m.
      same_turn u i t end f (is_negative st i) (is_member u t i) (is_member st t i) (topic_params_in u t) (topic_params_in st t) (e ∙ rw m)
      as_member as_params)
      (λ m. rw (as_member, m) refl)

  as_actions : (seconds : ℕ) → seconds ≡ unsubscribe_backoff st → leave_actions st t (i + 1) ≡ leave_actions st t i ++ action_if u t seconds i
  unfolding leave_actions action_if
  as_actions seconds e =
      gather_more _ i
      ∙ ap
      (λ (l : List Action). leave_actions st t i ++ l)
      (same_action (is_member st t i) (is_member u t i) (peer_in st i) (peer_in u i) (unsubscribe_backoff st) seconds (sym as_member)
      (sym as_peer) (sym e))

module _ (table₀ start : List ℕ) (t end seconds : ℕ) (flags : List Bool) (walk : Walk table₀ t seconds flags start)
    (i : ℕ) (h : i < slot_count) (table list : List ℕ) (at : ℕ) (now : Walking (state_of table₀) start t end i table list at) where
  -- what turn i relies on
  pub walking_ready : LeaveTurn table list t i at seconds
  walking_ready =
      let st = state_of table₀ in
      let v = walk.standing.router in
      let n : length list ≡ length start = walking_length st start t end i table list at now in
      let b : seconds ≤ 3600 = rw walk.backoff (sizes st v).leave in
      record {
        turn =
            record {
              size = now.size;
              topic = walk.topic;
              slot = h;
              threshold = rw (as_params st t end walk.topic i (state_of table) now.state) (params_in st v t walk.topic).threshold;
              id = rw (as_peer st t end walk.topic i (state_of table) now.state) ((valid_facts st v).peer i h).id;
            };
        room = omega (arith, now.place, n, walk.room, actions_short st t i);
        seconds = omega arith;
      }

  -- what it leaves
  pub walking_more :
      (table' list' : List ℕ) (next : ℕ) (f : Bool) →
      f ≡ get_or flags i false →
      length table' ≡ length table →
      Turned (state_of table) f t end seconds i table' list list' at next →
      Walking (state_of table₀) start t end (i + 1) table' list' next
  walking_more table' list' next f e l turn =
      let st = state_of table₀ in
      let u = state_of table in
      let x = action_if u t seconds i in
      let g : leave_actions st t (i + 1) ≡ leave_actions st t i ++ x =
      as_actions st t end walk.topic i u now.state seconds walk.backoff in
      record {
        size = l ∙ now.size;
        state =
            iter_more (leave_slot st t end) st i u (state_of table') now.state
            (turn.state ∙ as_turn st t end walk.topic i u now.state f (e ∙ walk.negatives i h));
        actions =
            turn.actions
            ∙ ap (λ (y : List ℕ). sets y at (numbers_of x)) now.actions
            ∙ numbers_join start (leave_actions st t i) x at now.place
            ∙ ap (λ (y : List Action). sets start 0 (numbers_of y)) (sym g);
        place =
            let y : length (leave_actions st t (i + 1)) ≡ length (leave_actions st t i) + length x =
            ap length g ∙ length-append (leave_actions st t i) x in
            omega (arith, turn.after, now.place);
      }

pub walking_done :
    (st : State) (start : List ℕ) (t end i : ℕ) (table list : List ℕ) (at : ℕ) →
    i ≤ slot_count →
    slot_count ≤ i →
    Walking st start t end i table list at →
    Walked st t end table start list at
walking_done st start t end i table list at h k now =
    let e : i ≡ slot_count = omega arith in
    let n : Walking st start t end slot_count table list at = rw e at now in
    record { state = n.state; actions = n.actions; count = n.place }

-- ---- the end of a call that leaves

third : (n k : ℕ) → n ≡ 3 * k → n / 3 ≡ k
third n k e = omega arith

-- `mid` is the table after the walk, `out` the one after the flag
pub gives_left :
    (table mid out table' list list' : List ℕ) (time t seconds end n : ℕ) →
    seconds ≡ unsubscribe_backoff (state_of table) →
    end ≡ end_after time seconds →
    Walked (state_of table) t end mid list list' n →
    state_of out ≡ set_joined (state_of mid) t 0 →
    state_of table' ≡ set_clock (state_of out) time →
    Gives
    (done (set_joined (iter slot_count (leave_slot (state_of table) t (end_after time (unsubscribe_backoff (state_of table)))) (state_of table)) t
    0) time (leave_actions (state_of table) t slot_count))
    (Done (n / 3))
    table
    table'
    list
    list'
gives_left table mid out table' list list' time t seconds end n es ee w ej ek =
    let st = state_of table in
    let z : end ≡ end_after time (unsubscribe_backoff st) = ee ∙ ap (end_after time) es in
    let v : Walked st t (end_after time (unsubscribe_backoff st)) mid list list' n = rw z at w in
    let o =
    done (set_joined (iter slot_count (leave_slot st t (end_after time (unsubscribe_backoff st))) st) t 0) time (leave_actions st t slot_count) in
    record {
      leaves =
          leaves_moved o (Done (n / 3)) table table' (ap Done (third n _ v.count)) refl
          (ek ∙ ap (λ (x : State). set_clock x time) (ej ∙ ap (λ (x : State). set_joined x t 0) v.state));
      actions = v.actions;
    }
