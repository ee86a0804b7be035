-- Walks over indices, read at one place: a walk whose steps leave the place alone, and one in which a single step may change it;
-- and the count of a test that changes at one index.
-- Assumes nothing.
use Prim.Native.Nat.{ℕ, zero, suc, ◌+◌, ◌≤◌, ◌<◌}
use native.Mathlib.Nat.{not-suc-le-zero, eq-or-lt_of_le, le_of_suc-le-suc}
use native.Mathlib.Omega.{arith}
use mathlib.Core.Path.{◌≡◌, refl, ap, ◌∙◌}
use mathlib.Core.Logic.{◌≢◌, ⊎_elim}
use mathlib.Core.Bool.{Bool}
use Rattle.index.specs.Index.{iter, count, one}
use Rattle.index.proofs.Index.{iter_keeps, count_same}

-- what no step changes, the walk does not change
pub iter_kept :
    {S A : Type 0} (read : S → A) (f : ℕ → S → S) (n : ℕ) (s : S) →
    ((i : ℕ) (u : S) → i < n → read (f i u) ≡ read u) →
    read (iter n f s) ≡ read s
iter_kept read f n s k = iter_keeps (λ u. read u ≡ read s) f n s refl (λ i u h e. k i u h ∙ e)

-- a place that the step of index j alone may change
module _
    {S A : Type 0}
    (read : S → A)
    (f : ℕ → S → S)
    (j : ℕ)
    (others : (i : ℕ) (u : S) → i ≢ j → read (f i u) ≡ read u)
  where
    pub iter_before : (n : ℕ) (s : S) → n ≤ j → read (iter n f s) ≡ read s
    iter_before n s h = iter_kept read f n s (λ i u l. others i u (λ e. omega arith))

    pub iter_once : (n : ℕ) (s : S) → j < n → read (iter n f s) ≡ read (f j (iter j f s))
    unfolding iter
    iter_once zero s h = absurd (not-suc-le-zero h)
    iter_once (suc n) s h =
        ⊎_elim
        (λ e. rw (← e))
        (λ l. others n (iter n f s) (λ e. omega arith) ∙ iter_once n s l)
        (eq-or-lt_of_le (le_of_suc-le-suc h))

-- a walk whose every step leaves the start alone ends there
pub iter_still :
    {S : Type 0} (f : ℕ → S → S) (n : ℕ) (s : S) → ((i : ℕ) → i < n → f i s ≡ s) → iter n f s ≡ s
iter_still f n s k = iter_keeps (λ u. u ≡ s) f n s refl (λ i u h e. ap (f i) e ∙ k i h)

-- two tests that differ at s alone
pub count_change :
    (f g : ℕ → Bool) (s n : ℕ) →
    s < n →
    ((i : ℕ) → i < n → i ≢ s → f i ≡ g i) →
    count n f + one (g s) ≡ count n g + one (f s)
unfolding count
count_change f g s zero h k = absurd (not-suc-le-zero h)
count_change f g s (suc n) h k =
    ⊎_elim
    (λ e.
    let c : count n f ≡ count n g = count_same f g n (λ i l. k i (omega arith) (λ z. omega arith)) in
    rw e (omega arith))
    (λ l.
    let c : count n f + one (g s) ≡ count n g + one (f s) =
    count_change f g s n l (λ i m z. k i (omega arith) z) in
    let d : one (f n) ≡ one (g n) = ap one (k n (omega arith) (λ z. omega arith)) in
    omega arith)
    (eq-or-lt_of_le (le_of_suc-le-suc h))
