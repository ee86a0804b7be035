-- Two routers alike but for one peer's score, as mesh maintenance sees them (02, order 13). Over any slot count n.
use Rattle.std.specs.Prelude.{ℕ, ◌≤◌, ◌<◌, ◌≡◌, true, get_or}
use Rattle.sets.specs.Sets.{at}
use Rattle.mesh.specs.Maintenance.{Whole}
use Rattle.mesh.specs.Maintenance.{View}

-- Two views at one start, alike but for the score of slot x, which is no less in v'; and so for whether x is a candidate, which asks for a
-- score that is not negative. A member is no candidate.
pub record Better (n x : ℕ) (v v' : View) : Type 0 where
  pub low : x < n
  pub whole : Whole n v
  pub whole' : Whole n v'
  pub apart : (s : ℕ) → at v'.members s ≡ true → at v'.candidates s ≡ true → ⊥
  pub members : v'.members ≡ v.members
  pub outbound : v'.outbound ≡ v.outbound
  pub permutation : v'.permutation ≡ v.permutation
  pub ask : v'.ask ≡ v.ask
  pub scores : (s : ℕ) → (s ≡ x → ⊥) → get_or v'.scores s 0 ≡ get_or v.scores s 0
  pub no_less : get_or v.scores x 0 ≤ get_or v'.scores x 0
  pub candidates : (s : ℕ) → (s ≡ x → ⊥) → at v'.candidates s ≡ at v.candidates s
  pub candidate : at v.candidates x ≡ true → at v'.candidates x ≡ true
