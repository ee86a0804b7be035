-- A PRUNE that comes in: its seconds, and what it leaves.
-- Assumes nothing.
use Rattle.std.proofs.Common.{min}
use Rattle.index.proofs.Kit.{ℕ, ◌≤◌, ◌≡◌, refl, ap, ◌∙◌, true, arith}
use mathlib.Core.List.{[]}
use borrow.Author.Tests.{ne_eqb}
use Rattle.records.specs.Records.{State, code_in}
use Rattle.varint.specs.Codes.{magnitude}
use Rattle.effects.specs.Effects.{pruned, end_after}
use Rattle.validity.specs.Valid.{valid}
use Rattle.gate.proofs.StandingLaws.{sizes}
use Rattle.rules.specs.Calls.{prune}
use Rattle.rules.specs.Reply.{ignored, done}
use Rattle.rules.specs.Step.{effect, is_heard, prune_reply, seconds_of}
use Rattle.rules.proofs.EndLaws.{quiet_cond, quiet_peer}

module _ (st : State) (seconds : ℕ) where
  pub seconds_none : (n : ℕ) → valid st ≡ true → seconds ≡ 0 → n ≡ magnitude (code_in st 5) → (n ≡ seconds_of st seconds) × (n ≤ 3600)
  unfolding seconds_of
  seconds_none n v z e = (rw z e, omega (arith, e, (sizes st v).prune))

  pub seconds_cut : (n : ℕ) → (seconds ≡ 0 → ⊥) → n ≡ min seconds 3600 → (n ≡ seconds_of st seconds) × (n ≤ 3600)
  unfolding seconds_of
  seconds_cut n z e = (rw (ne_eqb seconds 0 z) e, omega (arith, e))

-- the end of the backoff, as it is computed
pub pruned_is :
    (st u : State) (s t time m n end : ℕ) → m ≡ n → end ≡ end_after time m → u ≡ pruned st s t end → u ≡ pruned st s t (end_after time n)
pruned_is st u s t time m n end p q e = e ∙ ap (λ (k : ℕ). pruned st s t k) (q ∙ ap (λ (k : ℕ). end_after time k) p)

quiet_reply : (st : State) (time t seconds s : ℕ) → (prune_reply st time t seconds s).actions ≡ []
unfolding prune_reply
quiet_reply st time t seconds s =
    quiet_cond (is_heard st t s) (done (pruned st s t (end_after time (seconds_of st seconds))) time []) (ignored st time) refl refl

pub quiet_prune : (st : State) (time id t seconds : ℕ) → (effect st (prune time id t seconds)).actions ≡ []
unfolding effect
quiet_prune st time id t seconds = quiet_peer st id (prune_reply st time t seconds) (quiet_reply st time t seconds)
