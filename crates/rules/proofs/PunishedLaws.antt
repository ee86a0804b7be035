-- A member that we PRUNE and whose P3b may grow (`punished`): what that leaves alone.
-- Assumes nothing.
use Prim.Native.Nat.{ℕ}
use mathlib.Core.Path.{◌≡◌, refl}
use mathlib.Core.Logic.{◌≢◌}
use Rattle.index.proofs.Flags.{cond_case}
use Rattle.records.specs.Records.{State, place, peer_in}
use Rattle.layout.specs.View.{Sized}
use Rattle.layout.proofs.StateLaws.{peer_after_topic, sized_topic}
use Rattle.score.specs.Score.{topic_params_in}
use Rattle.score.specs.Counters.{grown_of}
use Rattle.effects.specs.Effects.{on_topic, is_member}
use Rattle.effects.proofs.EffectLaws.{Kept, kept_self, kept_topic, member_apart}
use Rattle.rules.specs.Step.{is_negative, punished}

module _ (st : State) (t i : ℕ) (u : State) where
  pub punished_peer : (j : ℕ) → peer_in (punished st t i u) j ≡ peer_in u j
  unfolding punished
  punished_peer j =
      cond_case (λ (v : State). peer_in v j ≡ peer_in u j) (is_negative st i) (on_topic u i t (grown_of (topic_params_in st t))) u
      (λ e. peer_after_topic u (place i t) _ j)
      (λ e. refl)

  pub punished_apart : (j v : ℕ) → place j v ≢ place i t → is_member (punished st t i u) v j ≡ is_member u v j
  unfolding punished
  punished_apart j v n =
      cond_case (λ (w : State). is_member w v j ≡ is_member u v j) (is_negative st i) (on_topic u i t (grown_of (topic_params_in st t))) u
      (λ e. member_apart u i t (grown_of (topic_params_in st t)) j v n)
      (λ e. refl)

  pub punished_kept : Kept u (punished st t i u)
  unfolding punished
  punished_kept =
      cond_case (λ (v : State). Kept u v) (is_negative st i) (on_topic u i t (grown_of (topic_params_in st t))) u
      (λ e. kept_topic u (place i t) _)
      (λ e. kept_self u)

  pub punished_sized : Sized u → Sized (punished st t i u)
  unfolding punished
  punished_sized z =
      cond_case (λ (v : State). Sized v) (is_negative st i) (on_topic u i t (grown_of (topic_params_in st t))) u
      (λ e. sized_topic u z (place i t) _)
      (λ e. z)
