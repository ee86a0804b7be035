-- A better score never loses the place, of the calls (02, order 13): two states alike but for one P5 give two views alike but for one
-- score, so what holds of the five steps holds of the mesh that a heartbeat writes back.
-- Assumes nothing.
use Rattle.std.proofs.Common.{Result, Ok, Err}
use Prim.Native.Nat.{ℕ, ◌<◌}
use native.Mathlib.Omega.{arith}
use mathlib.Core.Path.{◌≡◌, refl, sym, ap, ◌∙◌, subst}
use mathlib.Core.Bool.{Bool, true, false, not, cond, ◌&&◌}
use mathlib.Core.List.{List, [], ◌∷◌}
use lib.ListN.{length, get_or}
use lib.Dec.{eqb, leb}
use lib.Signed.{le_z}
use borrow.Author.Tests.{not-true}
use Rattle.index.proofs.Index.{both, gather_same}
use Rattle.index.proofs.Flags.{by_order}
use Rattle.varint.specs.Codes.{number_of}
use Rattle.records.specs.declared.Peer.{Peer}
use Rattle.records.specs.Records.{State, slot_count, code_in, peer_in, topic_in, place, set_peer, set_clock, is_connected}
use Rattle.layout.specs.View.{Sized, state_of}
use Rattle.layout.proofs.StateLaws.{sized_of, sized_peer, topic_after_peer, joined_after_peer, clock_after_peer}
use Rattle.validity.specs.Valid.{valid}
use Rattle.effects.specs.Effects.{with_p5, is_member, is_subscribed, is_joined}
use Rattle.sets.specs.Sets.{by_slot, at, is_permutation}
use Rattle.sets.proofs.SlotLaws.{slots_at, slots_past}
use Rattle.mesh.specs.Maintenance.{meshes}
use Rattle.monotone.specs.Better.{Better}
use Rattle.monotone.proofs.Place.{better_stays}
use Rattle.rules.specs.declared.Answer.{Answer}
use Rattle.rules.specs.declared.Answer.TheVariants.{NotPermutation}
use Rattle.rules.specs.Reply.{refused, ignored}
use Rattle.rules.specs.Calls.{heartbeat, in_range, topic_ok}
use Rattle.rules.specs.Step.{past_slack, is_negative, is_candidate, height_in, degrees_in, view_in, meshes_in, maintained_reply, heartbeat_reply}
use Rattle.rules.specs.Step.{gate_of, through, effect, step}
use Rattle.rules.proofs.GateLaws.{gate_passed}
use Rattle.rules.proofs.CaseLaws.{arguments, topic_in_lem}
use Rattle.rules.proofs.HeartbeatLaws.{candidate_good, degrees_rules, view_apart, view_whole, settled_member}
use Rattle.place.specs.Place.{NeverLoses, KeepsPlace}
use Rattle.place.proofs.Height.{st', reads, member_same, height_else, negative_else, height_up, not_negative}

-- lists by slot of functions that agree
slots_same : {A : Type 0} (f g : ℕ → A) → ((s : ℕ) → f s ≡ g s) → by_slot slot_count f ≡ by_slot slot_count g
unfolding by_slot
slots_same {A} f g h = gather_same slot_count (λ s. f s ∷ []) (λ s. g s ∷ []) (λ s. ap (λ (y : A). y ∷ []) (h s))

slots_but :
    {A : Type 0} (d : A) (x : ℕ) (f g : ℕ → A) →
    ((s : ℕ) → (s ≡ x → ⊥) → f s ≡ g s) →
    (s : ℕ) →
    (s ≡ x → ⊥) →
    get_or (by_slot slot_count f) s d ≡ get_or (by_slot slot_count g) s d
slots_but d x f g h s ns =
    by_order _ s slot_count
    (λ l. slots_at d f slot_count s l ∙ h s ns ∙ sym (slots_at d g slot_count s l))
    (λ l. slots_past d f slot_count s l ∙ sym (slots_past d g slot_count s l))

module _
    (st : State) (x code : ℕ) (low : x < slot_count) (size : Sized st) (ok : valid st ≡ true) (ok' : valid (st' st x code) ≡ true)
    (up : le_z (number_of (peer_in st x).p5) (number_of code) ≡ true) where
  abbrev u : State
  u = st' st x code

  -- a candidate by its record, its two flags and the sign of its score: P5 has a part in the last alone
  abbrev grafts : ℕ → ℕ → Peer → Bool → Bool → Bool → Bool
  grafts time t p subscribed member negative =
      is_connected p
      && (subscribed
      && (eqb p.explicit 0 && (not member && (not negative && past_slack (get_or p.backoff t 0) time))))

  candidate_same :
      (time t s : ℕ) → is_negative u s ≡ is_negative st s → is_candidate u time t s ≡ is_candidate st time t s
  unfolding is_candidate with_p5
  candidate_same time t s n =
      ap (grafts time t (peer_in u s) (is_subscribed u t s) (is_member u t s)) n
      ∙ ap (λ (b : Bool). grafts time t (peer_in u s) (is_subscribed u t s) b (is_negative st s)) (member_same st x code t s)
      ∙ ap (λ (r : _). grafts time t (peer_in u s) (eqb r.subscribed 1) (is_member st t s) (is_negative st s))
      (topic_after_peer st x (with_p5 (peer_in st x) code) (place s t))
      ∙ reads st x code
      (λ (p : Peer). grafts time t p (is_subscribed st t s) (is_member st t s) (is_negative st s))
      (λ p. refl)
      s

  candidate_stays : (time t : ℕ) → is_candidate st time t x ≡ true → is_candidate u time t x ≡ true
  candidate_stays time t e =
      let n = not-true (is_negative st x) (candidate_good st time t x e) in
      candidate_same time t x (not_negative st x code low size ok ok' up n ∙ sym n) ∙ e

  module _ (time t ask : ℕ) (order : List ℕ) (right : is_permutation slot_count order ≡ true) where
    views : Better slot_count x (view_in st time t ask order) (view_in u time t ask order)
    unfolding view_in with_p5
    views =
        record {
          low = low;
          whole = view_whole st time t ask order ok right;
          whole' = view_whole u time t ask order ok' right;
          apart = view_apart u time t ask order;
          members = slots_same (is_member u t) (is_member st t) (member_same st x code t);
          outbound =
              slots_same (λ s. eqb (peer_in u s).outbound 1) (λ s. eqb (peer_in st s).outbound 1)
              (reads st x code (λ p. eqb p.outbound 1) (λ p. refl));
          permutation = refl;
          ask = refl;
          scores = slots_but 0 x (height_in u) (height_in st) (height_else st x code);
          no_less =
              let h = height_up st x code low size ok ok' up in
              let a = slots_at 0 (height_in st) slot_count x low in
              let b = slots_at 0 (height_in u) slot_count x low in
              omega arith;
          candidates =
              slots_but false x (is_candidate u time t) (is_candidate st time t)
              (λ s ns. candidate_same time t s (negative_else st x code s ns));
          candidate = λ e.
              slots_at false (is_candidate u time t) slot_count x low
              ∙ candidate_stays time t (sym (slots_at false (is_candidate st time t) slot_count x low) ∙ e);
        }

    same_degrees : degrees_in u ≡ degrees_in st
    unfolding degrees_in code_in set_peer
    same_degrees = refl

    mesh_stays : at (meshes_in st time t ask order).fifth x ≡ true → at (meshes_in u time t ask order).fifth x ≡ true
    unfolding meshes_in
    mesh_stays a =
        subst
        (λ d. at (meshes slot_count d (view_in u time t ask order)).fifth x ≡ true)
        (sym same_degrees)
        (better_stays slot_count (degrees_in st) (view_in st time t ask order) (view_in u time t ask order) x (degrees_rules st ok) views a)

  sized : Sized u
  unfolding with_p5
  sized = sized_peer st size x (with_p5 (peer_in st x) code) (size.ends x)

  -- the state that a heartbeat of a joined topic leaves
  left : (v : State) → Sized v → (time t ask : ℕ) (order : List ℕ) → t < 8 →
      is_member (maintained_reply v time t ask order).state t x ≡ at (meshes_in v time t ask order).fifth x
  unfolding maintained_reply set_clock is_member topic_in
  left v z time t ask order k = settled_member v time t (meshes_in v time t ask order).fifth k z x low

  still : (v : State) (time t : ℕ) → is_member (set_clock v time) t x ≡ is_member v t x
  unfolding set_clock is_member topic_in
  still v time t = refl

  reply_stays :
      (time t ask : ℕ) (order : List ℕ) →
      t < 8 →
      is_member (heartbeat_reply st time t ask order).state t x ≡ true →
      is_member (heartbeat_reply u time t ask order).state t x ≡ true
  unfolding heartbeat_reply
  reply_stays time t ask order k =
      subst
      (λ (j : Bool). is_member (heartbeat_reply st time t ask order).state t x ≡ true →
      is_member (cond (is_permutation slot_count order) (cond j (maintained_reply u time t ask order) (ignored u time))
      (refused NotPermutation u)).state t x ≡ true)
      (ap (λ (n : ℕ). eqb n 1) (sym (joined_after_peer st x (with_p5 (peer_in st x) code) t)))
      (go (is_permutation slot_count order) refl (is_joined st t))
    where
      go :
          (p : Bool) →
          is_permutation slot_count order ≡ p →
          (j : Bool) →
          is_member (cond p (cond j (maintained_reply st time t ask order) (ignored st time)) (refused NotPermutation st)).state t x ≡ true →
          is_member (cond p (cond j (maintained_reply u time t ask order) (ignored u time)) (refused NotPermutation u)).state t x ≡ true
      go false e j a = member_same st x code t x ∙ a
      go true e false a = still u time t ∙ member_same st x code t x ∙ sym (still st time t) ∙ a
      go true e true a =
          left u sized time t ask order k
          ∙ mesh_stays time t ask order e (sym (left st size time t ask order k) ∙ a)

  gates : (fine : Bool) (room time : ℕ) → gate_of u fine room time ≡ gate_of st fine room time
  unfolding gate_of
  gates fine room time = rw (ok, ok', clock_after_peer st x (with_p5 (peer_in st x) code))

  step_stays :
      (time t ask : ℕ) (order : List ℕ) (room : ℕ) →
      is_member (step st (heartbeat time t ask order) room).state t x ≡ true →
      is_member (step u (heartbeat time t ask order) room).state t x ≡ true
  unfolding step effect
  step_stays time t ask order room =
      subst
      (λ (g : Result (Unit {0}) Answer). is_member (step st (heartbeat time t ask order) room).state t x ≡ true →
      is_member (through g u (heartbeat_reply u time t ask order)).state t x ≡ true)
      (sym same_gate)
      (go (gate_of st fine room time) refl)
    where
      fine : Bool
      fine = in_range (heartbeat time t ask order)

      same_gate : gate_of u fine room time ≡ gate_of st fine room time
      same_gate = gates fine room time

      go :
          (g : Result (Unit {0}) Answer) →
          gate_of st fine room time ≡ g →
          is_member (through g st (heartbeat_reply st time t ask order)).state t x ≡ true →
          is_member (through g u (heartbeat_reply u time t ask order)).state t x ≡ true
      go (Ok tt) e a =
          let p = gate_passed st fine room time e in
          reply_stays time t ask order (topic_in_lem t (both (topic_ok t) (leb ask 1) (arguments (heartbeat time t ask order) p.ranges)).0) a
      go (Err r) e a = member_same st x code t x ∙ a

pub never_loses : NeverLoses
never_loses st v x time t ask order room size ok ok' r a =
    let c = (peer_in v x).p5 in
    let e : v ≡ st' st x c = r.alike in
    subst (λ (w : State). is_member (step w (heartbeat time t ask order) room).state t x ≡ true) (sym e)
    (step_stays st x c r.low size ok (subst (λ (w : State). valid w ≡ true) e ok') r.no_less time t ask order room a)

pub keeps_place : KeepsPlace
keeps_place x time t ask order r r' a b a' b' list left left' ok ok' raised f f' here =
    ap (λ (w : State). is_member w t x) f'.leaves.state
    ∙ never_loses (state_of a) (state_of a') x time t ask order (length list) (sized_of a) ok ok' raised
    (ap (λ (w : State). is_member w t x) (sym f.leaves.state) ∙ here)
