-- Laws of computed tests.
-- Assumes nothing.
use Rattle.std.proofs.Common.{Option, Some}
use Prim.Native.Nat.{ℕ, ◌<◌, ◌≤◌}
use mathlib.Core.Path.{◌≡◌, refl, sym, ap, ◌∙◌}
use mathlib.Core.Bool.{Bool, true, false, not, ◌&&◌, cond}
use lib.Dec.{leb, ltb}
use borrow.Author.Tests.{le-leb, lt-leb, leb-true, leb-false, ltb-true, ltb-false, not-true, not-false}
use Rattle.index.proofs.Index.{both}

-- a test, its two outcomes at hand as equations
pub by_test {ℓ} : (P : Type ℓ) (t : Bool) → (t ≡ true → P) → (t ≡ false → P) → P
by_test P true f g = f refl
by_test P false f g = g refl

-- by which of two numbers is the larger
pub by_order {ℓ} : (P : Type ℓ) (a b : ℕ) → (a < b → P) → (b ≤ a → P) → P
by_order P a b f g = by_test P (ltb a b) (λ t. f (ltb-true a b t)) (λ t. g (ltb-false a b t))

-- two orders that say the same are the same test
pub leb_same : (a b c d : ℕ) → (a ≤ b → c ≤ d) → (b < a → d < c) → leb a b ≡ leb c d
leb_same a b c d f g = go (leb a b) refl
  where
    go : (t : Bool) → leb a b ≡ t → leb a b ≡ leb c d
    go true e = e ∙ sym (le-leb c d (f (leb-true a b e)))
    go false e = e ∙ sym (lt-leb c d (g (leb-false a b e)))

-- `if !f(x) { .. }` of a call that ensures `r ≡ spec`: what the two ways say of the spec
pub failed : {a b : Bool} → a ≡ b → not a ≡ true → b ≡ false
failed {a} e t = sym e ∙ not-true a t

pub passed : {a b : Bool} → a ≡ b → not a ≡ false → b ≡ true
passed {a} e t = sym e ∙ not-false a t

-- the parts of a conjunction of five that holds
pub all5 :
    (a b c d e : Bool) →
    a && b && c && d && e ≡ true →
    (a ≡ true) × (b ≡ true) × (c ≡ true) × (d ≡ true) × (e ≡ true)
all5 a b c d e p =
    let q = both (a && b && c && d) e p in
    let r = both (a && b && c) d q.0 in
    let s = both (a && b) c r.0 in
    let t = both a b s.0 in
    (t.0, t.1, s.1, r.1, q.1)

-- what holds of both ways of a choice holds of the choice
pub cond_case :
    {A : Type 0} (P : A → Type 0) (b : Bool) (x y : A) →
    (b ≡ true → P x) →
    (b ≡ false → P y) →
    P (cond b x y)
cond_case P true x y f g = f refl
cond_case P false x y f g = g refl

-- the halves of a pair that two answers hold
pub pair_of : {A B : Type 0} {a c : A} {b d : B} → ◌≡◌ {A = Option (A × B)} (Some (a, b)) (Some (c, d)) → (a ≡ c) × (b ≡ d)
pair_of {A} {B} {a} {c} {b} {d} e =
    let p : (a, b) ≡ (c, d) = cc in
    (ap (λ (q : A × B). q.0) p, ap (λ (q : A × B). q.1) p)

-- `if f(x) { .. }` of a call that ensures `r ≡ spec`
pub yes : {a b : Bool} → a ≡ b → a ≡ true → b ≡ true
yes e t = sym e ∙ t

pub no : {a b : Bool} → a ≡ b → a ≡ false → b ≡ false
no e t = sym e ∙ t

pub not_yes : {a : Bool} → a ≡ false → not a ≡ true
not_yes e = ap not e

pub not_no : {a : Bool} → a ≡ true → not a ≡ false
not_no e = ap not e

-- the ways in which a branch tells what a tested definition is
pub ruleset flags = (failed, passed, yes, no)
