-- Where n different numbers below n are named, every number below n is: without a number v, they would be n different ones below n - 1.
-- Assumes nothing.
use Rattle.std.proofs.Common.{Option, Some, None}
use Rattle.index.proofs.Kit.{ℕ, ◌-◌, ◌<◌, ◌≤◌, ◌≡◌, refl, arith, first, by_test, by_order}
use Prim.Native.Nat.{zero, suc}
use mathlib.Core.Bool.{cond}
use borrow.Author.Tests.{ltb-true, ltb-false, eqb-true, eqb-false}
use lib.Dec.{ltb, eqb}
use Rattle.index.proofs.Index.{first_is, first_passed}

-- v taken out: what is above it moves down by one
abbrev without : ℕ → ℕ → ℕ
without v x = cond (ltb v x) (x - 1) x

without_below : (v x m : ℕ) → (x ≡ v → ⊥) → x < suc m → v < suc m → without v x < m
without_below v x m n h l =
    by_test (without v x < m) (ltb v x)
    (λ t. rw t (omega (arith, ltb-true v x t)))
    (λ t. rw t (let k = ltb-false v x t in by_order (x < m) x v (λ a. omega arith) (λ a. absurd (n (omega arith)))))

without_same : (v x y : ℕ) → (x ≡ v → ⊥) → (y ≡ v → ⊥) → without v x ≡ without v y → x ≡ y
without_same v x y n m =
    by_test (without v x ≡ without v y → x ≡ y) (ltb v x)
    (λ t. by_test (without v x ≡ without v y → x ≡ y) (ltb v y)
    (λ u. rw (t, u) (λ e. omega (arith, ltb-true v x t, ltb-true v y u)))
    (λ u. rw (t, u) (λ e. absurd (m (omega (arith, ltb-true v x t, ltb-false v y u))))))
    (λ t. by_test (without v x ≡ without v y → x ≡ y) (ltb v y)
    (λ u. rw (t, u) (λ e. absurd (n (omega (arith, ltb-false v x t, ltb-true v y u)))))
    (λ u. rw (t, u) (λ e. e)))

abbrev pub Different : ℕ → (ℕ → ℕ) → Type 0
Different n f = (i j : ℕ) → i < j → j < n → f i ≡ f j → ⊥

-- n different numbers below m are at most m
few : (n m : ℕ) (f : ℕ → ℕ) → ((i : ℕ) → i < n → f i < m) → Different n f → n ≤ m
few zero m f b d = omega arith
few (suc n) zero f b d = absurd (omega (arith, b n (omega arith)))
few (suc n) (suc m) f b d =
    let v = f n in
    let other : (i : ℕ) → i < n → f i ≡ v → ⊥ = λ i h. d i n h (omega arith) in
    let l = few n m (λ i. without v (f i))
    (λ i h. without_below v (f i) m (other i h) (b i (omega arith)) (b n (omega arith)))
    (λ i j h k e. d i j h (omega arith) (without_same v (f i) (f j) (other i (omega arith)) (other j k) e)) in
    omega arith

pub record Named (n : ℕ) (f : ℕ → ℕ) (v : ℕ) : Type 0 where
  pub at : ℕ
  pub low : at < n
  pub is : f at ≡ v

pub all_named : (n : ℕ) (f : ℕ → ℕ) → ((i : ℕ) → i < n → f i < n) → Different n f → (v : ℕ) → v < n → Named n f v
all_named zero f b d v h = absurd (omega arith)
all_named (suc n) f b d v h = go (first (suc n) (λ i. eqb (f i) v)) refl
  where
    go : (r : Option ℕ) → first (suc n) (λ i. eqb (f i) v) ≡ r → Named (suc n) f v
    go (Some i) e =
        let q = first_is (λ i. eqb (f i) v) (suc n) i e in
        record { at = i; low = q.0; is = eqb-true (f i) v q.1 }
    go None e =
        let other : (i : ℕ) → i < suc n → f i ≡ v → ⊥ = λ i l. eqb-false (f i) v (first_passed (λ i. eqb (f i) v) (suc n) e i l) in
        let l = few (suc n) n (λ i. without v (f i))
        (λ i k. without_below v (f i) n (other i k) (b i k) h)
        (λ i j k l e. d i j k l (without_same v (f i) (f j) (other i (omega arith)) (other j l) e)) in
        absurd (omega arith)
