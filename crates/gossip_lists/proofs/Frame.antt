-- The new calls leave of 01's state all but the clock; so what demand 3 rests on stands after them.
-- Assumes nothing.
use Prim.Native.Nat.{ℕ}
use mathlib.Core.Path.{◌≡◌, refl, sym, ap, ◌∙◌}
use mathlib.Core.Bool.{Bool, false}
use mathlib.Core.List.{List}
use lib.Dec.{eqb, ltb}
use Rattle.params.specs.declared.Params.{Params}
use borrow.Author.Tests.{leb-true}
use Rattle.index.proofs.Index.{both}
use Rattle.index.proofs.Flags.{cond_case}
use Rattle.records.specs.Records.{State, slot_count, set_clock, code_in, peer_in, topic_in, joined_in}
use Rattle.validity.specs.Valid.{max_time}
use Rattle.effects.specs.Effects.{is_joined, is_member}
use Rattle.score.specs.Score.{score_in, why_in, topic_score, topic_params_in, sharers_of, sharing_at, sharing, shares_group}
use Rattle.sets.specs.Sets.{is_permutation}
use Rattle.rules.specs.Calls.{time_ok}
use Rattle.rules.proofs.KeepsState.{router_start, router_end}
use Rattle.call_lists.proofs.Frames.{fewer_still}
use Rattle.call_lists.proofs.Standing.{Standing}
use Rattle.call_lists.proofs.Replies.{after_fewer}
use Rattle.gossip.specs.Notes.{Extended, window_most, note_in, store_in, holds, stored_in}
use Rattle.gossip.specs.Calls.{New, ask_all, idontwant, relay, beat, store, announce, ihave, iwant, time_of_new, new_arguments_ok, new_in_range}
use Rattle.gossip.specs.Step.{FullReply, refused_all, ignored_all, done_all, has_room, is_heeded, ask_reply, idontwant_reply, relay_reply}
use Rattle.gossip.specs.Step.{running, store_reply, announce_reply, is_answered, ihave_reply, is_served, iwant_reply, new_effect, new_step}
use Rattle.gossip_lists.specs.Frame.{NewTouchesNothing}
use Rattle.gossip.proofs.Cases.{by_first, by_slot_lem, by_sender, by_joined}

-- ---- whatever a new call does, it refuses, or moves the clock to its time and changes notes and stores
module _
    (P : FullReply → Type 0)
    (x : Extended)
    (refuses : (a : ℕ) → eqb a 0 ≡ false → P (refused_all a x))
    (time : ℕ)
    (moves : (r : FullReply) → r.state.base ≡ set_clock x.base time → P r)
  where
    still_ask : (t sender : ℕ) → P (ask_reply x time t sender)
    unfolding ask_reply
    still_ask t sender =
        by_sender P x refuses sender _ (by_joined P x refuses time t _ (moves _ refl) (λ j. moves _ refl))

    still_idontwant : (n s : ℕ) → P (idontwant_reply x time n s)
    unfolding idontwant_reply
    still_idontwant n s =
        cond_case P (is_heeded x.base s) _ (ignored_all x time)
        (λ e.
        cond_case P (holds (note_in x.gossip s) n) (done_all x time x.gossip _ _) _ (λ h. moves _ refl) (λ h.
        cond_case P (has_room x.gossip.setup (note_in x.gossip s)) _ (ignored_all x time) (λ r. moves _ refl) (λ r. moves _ refl)))
        (λ e. moves _ refl)

    still_relay : (t sender n : ℕ) → P (relay_reply x time t sender n)
    unfolding relay_reply
    still_relay t sender n =
        by_sender P x refuses sender _ (by_joined P x refuses time t _ (moves _ refl) (λ j. moves _ refl))

    still_store : (t n : ℕ) → P (store_reply x time t n)
    unfolding store_reply
    still_store t n =
        by_joined P x refuses time t _ (moves _ refl) (λ j.
        cond_case P (stored_in (store_in x.gossip t) n) (done_all x time x.gossip _ _) _ (λ e. moves _ refl) (λ e.
        cond_case P (ltb (running (store_in x.gossip t)) window_most) _ (refused_all 13 x) (λ r. moves _ refl) (λ r. refuses 13 refl)))

    still_announce : (t : ℕ) (order : List ℕ) → P (announce_reply x time t order)
    unfolding announce_reply
    still_announce t order =
        cond_case P (is_permutation slot_count order) _ (refused_all 7 x)
        (λ e. by_joined P x refuses time t _ (moves _ refl) (λ j. moves _ refl))
        (λ e. refuses 7 refl)

    still_ihave : (t : ℕ) (numbers : List ℕ) (s : ℕ) → P (ihave_reply x time t numbers s)
    unfolding ihave_reply
    still_ihave t numbers s =
        cond_case P (is_answered x t s) _ (ignored_all x time) (λ e. moves _ refl) (λ e. moves _ refl)

    still_iwant : (n s : ℕ) → P (iwant_reply x time n s)
    unfolding iwant_reply
    still_iwant n s = cond_case P (is_served x n s) _ (ignored_all x time) (λ e. moves _ refl) (λ e. moves _ refl)

pub still_effect :
    (P : FullReply → Type 0) (x : Extended) →
    ((a : ℕ) → eqb a 0 ≡ false → P (refused_all a x)) →
    (c : New) →
    ((r : FullReply) → r.state.base ≡ set_clock x.base (time_of_new c) → P r) →
    P (new_effect x c)
unfolding new_effect
still_effect P x f (ask_all time t sender n) m = still_ask P x f time m t sender
still_effect P x f (idontwant time id n) m = by_slot_lem P x f id _ (λ s l on i. still_idontwant P x f time m n s)
still_effect P x f (relay time t sender n) m = still_relay P x f time m t sender n
still_effect P x f (beat time) m = m _ refl
still_effect P x f (store time t n) m = still_store P x f time m t n
still_effect P x f (announce time t order list) m = still_announce P x f time m t order
still_effect P x f (ihave time id t numbers list) m = by_slot_lem P x f id _ (λ s l on i. still_ihave P x f time m t numbers s)
still_effect P x f (iwant time id n) m = by_slot_lem P x f id _ (λ s l on i. still_iwant P x f time m n s)

self : (st : State) → st ≡ set_clock st st.clock
unfolding set_clock
self st = refl

clock_at : (st : State) (n : ℕ) → (set_clock st n).clock ≡ n
unfolding set_clock
clock_at st n = refl

stands_still :
    (x : Extended) (c : New) (room : ℕ) →
    (new_step x c room).state.base ≡ set_clock x.base (new_step x c room).state.base.clock
stands_still x c room =
    by_first (λ (r : FullReply). r.state.base ≡ set_clock x.base r.state.base.clock) x (λ a e. self x.base) c room
    (λ p.
    still_effect (λ (r : FullReply). r.state.base ≡ set_clock x.base r.state.base.clock) x (λ a e. self x.base) c
    (λ r e. e ∙ ap (set_clock x.base) (sym (clock_at x.base (time_of_new c)) ∙ ap (λ (st : State). st.clock) (sym e))))

-- ---- what the clock says nothing of
module _ (st : State) (n : ℕ) where
  joined_clock : (t : ℕ) → is_joined (set_clock st n) t ≡ is_joined st t
  unfolding set_clock joined_in
  joined_clock t = refl

  member_clock : (t s : ℕ) → is_member (set_clock st n) t s ≡ is_member st t s
  unfolding set_clock is_member topic_in
  member_clock t s = refl

  score_clock : (s : ℕ) → score_in (set_clock st n) s ≡ score_in st s
  unfolding score_in why_in set_clock code_in topic_score peer_in topic_params_in topic_in sharers_of sharing_at sharing shares_group
  score_clock s = refl

  peer_clock : (s : ℕ) → peer_in (set_clock st n) s ≡ peer_in st s
  unfolding set_clock peer_in
  peer_clock s = refl

pub new_touches_nothing : NewTouchesNothing
new_touches_nothing x c room =
    let st = x.base in
    let u = (new_step x c room).state.base in
    let e : u ≡ set_clock st u.clock = stands_still x c room in
    record {
      stands = e;
      joined = λ t. ap (λ (v : State). is_joined v t) e ∙ joined_clock st u.clock t;
      mesh = λ t s. ap (λ (v : State). is_member v t s) e ∙ member_clock st u.clock t s;
      score = λ s. ap (λ (v : State). score_in v s) e ∙ score_clock st u.clock s;
      peer = λ s. ap (λ (v : State). peer_in v s) e ∙ peer_clock st u.clock s;
    }

-- ---- demand 3's invariant
pub stands_new :
    (params : Params) (dir : ℕ → Bool) (x : Extended) →
    Standing params dir x.base →
    (c : New) (room : ℕ) →
    Standing params dir (new_step x c room).state.base
unfolding new_in_range
stands_new params dir x h c room =
    by_first P x (λ a e. h) c room (λ p.
    still_effect P x (λ a e. h) c (λ r e.
    let q = both (time_ok (time_of_new c)) (new_arguments_ok c) p.ranges in
    let at = router_start (time_of_new c) x.base h.size p.router p.clock (leb-true (time_of_new c) max_time q.0) in
    let w = router_end (time_of_new c) x.base at in
    let u = set_clock x.base (time_of_new c) in
    rw e (after_fewer params dir x.base h u (fewer_still x.base (time_of_new c)) w.size w.router)))
  where
    P : FullReply → Type 0
    P r = Standing params dir r.state.base
