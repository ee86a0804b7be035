-- The seconds that a leave, a heartbeat and a refused GRAFT tell: an action is made from the peer of its slot, and no other connected slot
-- has its id.
-- Assumes nothing.
use Prim.{tt}
use Prim.Native.Nat.{ℕ, zero, suc, ◌<◌}
use native.Mathlib.Omega.{arith}
use mathlib.Core.Path.{◌≡◌, refl, sym, ap, ap₂, ◌∙◌}
use mathlib.Core.Bool.{true, cond}
use mathlib.Core.List.{List, [], ◌∷◌, ◌++◌, map}
use lib.Dec.{eqb}
use lib.IntN.{nat_abs}
use Rattle.index.specs.Index.{gather}
use Rattle.index.proofs.Flags.{cond_case}
use Rattle.limits.specs.Limits.{at}
use Rattle.records.specs.declared.Peer.{Peer}
use Rattle.records.specs.Records.{State, slot_count, peer_in}
use Rattle.layout.specs.View.{Sized}
use Rattle.validity.specs.Valid.{valid}
use Rattle.effects.specs.Actions.{Action, prune_of}
use Rattle.effects.specs.Effects.{prune_backoff, unsubscribe_backoff, with_p7, is_joined, is_member}
use Rattle.sets.specs.Sets.{by_slot, is_permutation}
use Rattle.mesh.specs.Maintenance.{Action as Tell, changes_of, actions_of}
use Rattle.rules.specs.declared.Answer.TheVariants.{NotPermutation}
use Rattle.rules.specs.Reply.{Reply, refused, ignored}
use Rattle.rules.specs.Calls.{leave, graft, heartbeat}
use Rattle.rules.proofs.GraftLaws.{by_graft}
use Rattle.rules.specs.Step.{told_in, action_in, leave_actions, leave_reply, meshes_in, heartbeat_actions, maintained_reply, heartbeat_reply}
use Rattle.rules.specs.Step.{raised_p7}
use Rattle.rules.specs.Step.{graft_refused, graft_reply, effect}
use Rattle.rules.proofs.CaseLaws.{by_peer, by_gate}
use Rattle.call_lists.specs.Lists.{after}
use Rattle.call_lists.proofs.Standing.{degree_is}
use Rattle.call_lists.proofs.Demand3.{standing}
use Rattle.promises.specs.Told.{Each, Seconds, ToldSeconds}
use Rattle.promises.proofs.Told.{id_is}

each_append : (P : Action → Type 0) (x y : List Action) → Each P x → Each P y → Each P (x ++ y)
unfolding Each
each_append P [] y h k = k
each_append P (a ∷ x) y h k = (h.0, each_append P x y h.1 k)

module _ (st : State) (size : Sized st) (ok : valid st ≡ true) where
  -- an action on the peer of slot x is one to the peer with its id
  same_slot : (x s : ℕ) → s < slot_count → (peer_in st s).status ≡ 1 → (peer_in st s).id ≡ (peer_in st x).id → x ≡ s
  same_slot x s h on e = id_is st size ok s h (λ z. omega (arith, z, on)) x (sym e)

  each_map : (seconds : ℕ) → prune_backoff st ≡ seconds → (l : List Tell) → Each (Seconds st seconds) (map (action_in st) l)
  unfolding Each
  each_map seconds e [] = tt
  each_map seconds e (a ∷ l) = (
    λ s h on q.
        let w = same_slot a.slot s h on q in
        ap (λ (x : ℕ). cond (eqb a.kind 2) (told_in st x) 0) w
        ∙ ap (λ (n : ℕ). cond (eqb a.kind 2) (cond (eqb (peer_in st s).version 0) 0 n) 0) e,
    each_map seconds e l,
  )

  each_leave : (t seconds : ℕ) → unsubscribe_backoff st ≡ seconds → (n : ℕ) → Each (Seconds st seconds) (leave_actions st t n)
  unfolding Each leave_actions gather
  each_leave t seconds e zero = tt
  each_leave t seconds e (suc n) =
      each_append (Seconds st seconds) (gather n (λ i. cond (is_member st t i) (prune_of (peer_in st i) (unsubscribe_backoff st) ∷ []) [])) _
      (each_leave t seconds e n)
      (cond_case (Each (Seconds st seconds)) (is_member st t n) (prune_of (peer_in st n) (unsubscribe_backoff st) ∷ []) []
      (λ m. (
        λ s h on q.
            let w = same_slot n s h on q in
            ap (λ (x : ℕ). cond (eqb (peer_in st x).version 0) 0 (unsubscribe_backoff st)) w
            ∙ ap (λ (k : ℕ). cond (eqb (peer_in st s).version 0) 0 k) e,
        tt,
      ))
      (λ m. tt))

  leave_seconds : (time t seconds : ℕ) → unsubscribe_backoff st ≡ seconds → Each (Seconds st seconds) (leave_reply st time t).actions
  unfolding leave_reply Each
  leave_seconds time t seconds e =
      cond_case (λ (r : Reply). Each (Seconds st seconds) r.actions) (is_joined st t) _ (ignored st time)
      (λ j. each_leave t seconds e slot_count)
      (λ j. tt)

  heartbeat_seconds : (time t ask seconds : ℕ) (order : List ℕ) → prune_backoff st ≡ seconds →
      Each (Seconds st seconds) (heartbeat_reply st time t ask order).actions
  unfolding heartbeat_reply maintained_reply heartbeat_actions Each
  heartbeat_seconds time t ask seconds order e =
      cond_case (λ (r : Reply). Each (Seconds st seconds) r.actions) (is_permutation slot_count order) _ (refused NotPermutation st)
      (λ right.
      cond_case (λ (r : Reply). Each (Seconds st seconds) r.actions) (is_joined st t) (maintained_reply st time t ask order)
      (ignored st time)
      (λ j. each_map seconds e (actions_of slot_count order (changes_of (by_slot slot_count (is_member st t)) (meshes_in st time t ask order))))
      (λ j. tt))
      (λ wrong. tt)

  -- ---- GRAFT in: p is the peer's record, or that with P7 raised
  module _ (time t i seconds : ℕ) (e : prune_backoff st ≡ seconds) where
    refused_seconds :
        (p : Peer) → p.id ≡ (peer_in st i).id → p.version ≡ (peer_in st i).version →
        Each (Seconds st seconds) (graft_refused st time t i p).actions
    unfolding graft_refused Each
    refused_seconds p id version = (
      λ s h on q.
          let w = same_slot i s h on (q ∙ id) in
          ap₂ (λ (v n : ℕ). cond (eqb v 0) 0 n) (version ∙ ap (λ (x : ℕ). (peer_in st x).version) w) e,
      tt,
    )

    graft_seconds : Each (Seconds st seconds) (graft_reply st time t i).actions
    unfolding Each raised_p7 with_p7
    graft_seconds =
        by_graft (λ (r : Reply). Each (Seconds st seconds) r.actions) st time t i
        (λ e. tt)
        (λ e m. tt)
        (λ e. refused_seconds (peer_in st i) refl refl)
        (λ e. refused_seconds (raised_p7 (peer_in st i)) refl refl)
        (λ e. tt)

pub told_seconds : ToldSeconds
unfolding effect Each
told_seconds start calls fine time t room =
    let st = after start calls in
    let w = standing start fine calls in (
      by_gate (λ (r : Reply). Each (Seconds st (nat_abs (at start.params.numbers 6))) r.actions) st (leave time t) room
          (λ a e. tt)
          (λ p. leave_seconds st w.size w.router time t (nat_abs (at start.params.numbers 6))
          (degree_is st start.params w.codes 6)),
      λ ask order.
          by_gate (λ (r : Reply). Each (Seconds st (nat_abs (at start.params.numbers 5))) r.actions) st
          (heartbeat time t ask order) room
          (λ a e. tt)
          (λ p. heartbeat_seconds st w.size w.router time t ask (nat_abs (at start.params.numbers 5)) order
          (degree_is st start.params w.codes 5)),
      λ id.
          by_gate (λ (r : Reply). Each (Seconds st (nat_abs (at start.params.numbers 5))) r.actions) st (graft time id t) room
          (λ a e. tt)
          (λ p.
          by_peer (λ (r : Reply). Each (Seconds st (nat_abs (at start.params.numbers 5))) r.actions) st id _ tt (λ s h on.
          graft_seconds st w.size w.router time t s (nat_abs (at start.params.numbers 5))
          (degree_is st start.params w.codes 5))),
    )
