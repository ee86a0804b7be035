-- The two ends of a call that gives no action: 11, and 0.
-- Assumes nothing.
use Rattle.std.proofs.Common.{Result, Ok, Err}
use Prim.Native.Nat.{ℕ}
use mathlib.Core.Path.{◌≡◌, refl, ap, ap₂, ◌∙◌}
use mathlib.Core.Bool.{Bool, true, false, cond, ◌&&◌}
use mathlib.Core.List.{List, []}
use lib.ListN.{length, set}
use Rattle.index.proofs.Flags.{yes, no}
use Rattle.records.specs.Records.{State, set_clock, set_joined}
use Rattle.layout.specs.View.{clock_at, state_of}
use Rattle.effects.specs.Effects.{is_joined, on_topic, with_subscribed, out_of_mesh}
use Rattle.rules.specs.declared.Answer.{Answer}
use Rattle.rules.specs.declared.Answer.TheVariants.{Done, Ignored}
use Rattle.rules.specs.Reply.{Reply, ignored, done}
use Rattle.rules.specs.Calls.{join, time_of, time_ok, id_ok, topic_ok, arguments_ok}
use Rattle.rules.specs.Step.{effect, of_peer, is_graylisted, join_reply, subscribe_reply, unsubscribe_reply}
use Rattle.rules.specs.Promise.{Leaves, Follows}
use Rattle.rules.proofs.EndLaws.{leaves_ignored, leaves_done, quiet_cond, quiet_peer}
use Rattle.gate.specs.PeerGate.{peer_gate}
use Rattle.gate.proofs.PeerGateLaws.{peer_refusal, peer_quiet}
use Rattle.topics.specs.Change.{change, changed, change_reply}

-- "11 if t, else 0": t is the rule's test, and f what the code computed of it
module _ (table mid table' : List ℕ) (u : State) (time : ℕ) (t f : Bool) (a : Answer) (e : f ≡ t) where
  pub else_ignored :
      f ≡ true →
      (a ≡ Ignored) × (state_of table' ≡ set_clock (state_of table) time) × (table' ≡ set table clock_at time) →
      Leaves (cond t (ignored (state_of table) time) (done u time [])) a table table'
  else_ignored g h = rw (yes e g) (leaves_ignored table table' time a h)

  pub else_done :
      f ≡ false → state_of mid ≡ u → (a ≡ Done 0) × (state_of table' ≡ set_clock (state_of mid) time) →
      Leaves (cond t (ignored (state_of table) time) (done u time [])) a table table'
  else_done g s h = rw (no e g) (leaves_done table mid table' u time a s h)

-- ---- none of these calls gives an action
quiet_test : (t : Bool) (st u : State) (time : ℕ) → (cond t (ignored st time) (done u time [])).actions ≡ []
quiet_test t st u time = quiet_cond t (ignored st time) (done u time []) refl refl

pub quiet_join : (st : State) (time t : ℕ) → (effect st (join time t)).actions ≡ []
unfolding effect join_reply
quiet_join st time t = quiet_test (is_joined st t) st (set_joined st t 1) time

-- ---- subscribe and unsubscribe, which differ by a flag
module _ (time id t : ℕ) where
  change_effect : (on : Bool) (st : State) → effect st (change on time id t) ≡ of_peer st id (change_reply on st time t)
  unfolding effect subscribe_reply unsubscribe_reply change_reply
  change_effect true st = refl
  change_effect false st = refl

  change_time : (on : Bool) → time ≡ time_of (change on time id t)
  change_time true = refl
  change_time false = refl

  change_range : (on : Bool) → (id_ok id && topic_ok t) ≡ arguments_ok (change on time id t)
  change_range true = refl
  change_range false = refl

  module _
      (on : Bool)
      (table list : List ℕ)
      (a b d : Bool)
      (g : Result ℕ Answer)
      (ea : a ≡ time_ok time)
      (eb : b ≡ id_ok id)
      (ed : d ≡ topic_ok t)
      (eg : g ≡ peer_gate (state_of table) (a && (b && d)) (length list) time id)
    where
      pub change_refusal : (x : Answer) → g ≡ Err x → Follows (change on time id t) x table table list list
      change_refusal =
          peer_refusal (change on time id t) id (change_reply on (state_of table) time t) table list a (b && d) g (change_effect on (state_of table))
          (ea ∙ ap time_ok (change_time on))
          (ap₂ ◌&&◌ eb ed ∙ change_range on)
          (eg ∙ ap (λ (n : ℕ). peer_gate (state_of table) (a && (b && d)) (length list) n id) (change_time on))

      pub change_follows :
          (s : ℕ) → g ≡ Ok s → (r : Answer) (table' : List ℕ) → Leaves (change_reply on (state_of table) time t s) r table table' →
          Follows (change on time id t) r table table' list list
      unfolding change_reply
      change_follows s p r table' l =
          let e = change_effect on (state_of table) in
          let q =
          quiet_peer (state_of table) id (change_reply on (state_of table) time t)
          (λ s. quiet_test (is_graylisted (state_of table) s) (state_of table) (on_topic (state_of table) s t (changed on)) time) in
          peer_quiet (change on time id t) id (change_reply on (state_of table) time t) table list a (b && d) g e
          (ea ∙ ap time_ok (change_time on))
          (ap₂ ◌&&◌ eb ed ∙ change_range on)
          (eg ∙ ap (λ (n : ℕ). peer_gate (state_of table) (a && (b && d)) (length list) n id) (change_time on))
          s p r table'
          (ap (λ (o : Reply). o.actions) e ∙ q)
          l

-- what the store of either flag leaves
module _ (st u : State) (s t : ℕ) (on : Bool) where
  pub changed_on : on ≡ true → u ≡ on_topic st s t (λ r. with_subscribed r 1) → u ≡ on_topic st s t (changed on)
  changed_on g e = rw g e

  pub changed_off : on ≡ false → u ≡ on_topic st s t (λ r. with_subscribed (out_of_mesh r) 0) → u ≡ on_topic st s t (changed on)
  changed_off g e = rw g e
