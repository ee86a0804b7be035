-- How many more heartbeats a store keeps a number.
-- Assumes nothing.
use Prim.Native.Nat.{ℕ, zero, suc, ◌-◌, ◌<◌, ◌≤◌}
use native.Mathlib.Omega.{arith}
use mathlib.Core.Path.{◌≡◌, refl, sym, ap, ◌∙◌}
use mathlib.Core.Bool.{false, cond, ◌&&◌, ◌||◌}
use mathlib.Core.List.{List, [], ◌∷◌, ◌++◌}
use lib.Dec.{eqb, ltb}
use lib.ListN.{length, take}
use borrow.Author.Tests.{eqb-true, lt-ltb}
use Rattle.index.proofs.Flags.{by_test}
use Rattle.gossip.proofs.StoredLaws.{or_no, some_same}
use Rattle.gossip.specs.Notes.{Gossip, store_in, has, stored_in, some, stored, moved, added}

-- ---- the first heartbeat that has the number: k for the running one
unfoldable pub life_in : ℕ → List (List ℕ) → ℕ → ℕ
life_in k [] n = 0
life_in k (w ∷ l) n = cond (has n w) k (life_in (k - 1) l n)

pub life_none : (k : ℕ) (w : List (List ℕ)) (n : ℕ) → stored_in w n ≡ false → life_in k w n ≡ 0
unfolding life_in stored_in
life_none k [] n e = refl
life_none k (w ∷ l) n e = let q = or_no (has n w) (stored_in l n) e in rw q.0 (life_none (k - 1) l n q.1)

pub life_stored : (k : ℕ) (w : List (List ℕ)) (n : ℕ) → length w ≤ k → ltb 0 (life_in k w n) ≡ stored_in w n
unfolding life_in stored_in
life_stored k [] n h = refl
life_stored k (w ∷ l) n h =
    by_test _ (has n w)
    (λ e. rw e (lt-ltb 0 k (omega arith)))
    (λ e. rw e (life_stored (k - 1) l n (omega arith)))

take_life : (k : ℕ) (w : List (List ℕ)) (n : ℕ) → length w ≤ suc k → life_in k (take k w) n ≡ life_in (suc k) w n - 1
unfolding life_in
take_life zero [] n h = refl
take_life (suc k) [] n h = refl
take_life zero (w ∷ []) n h = by_test _ (has n w) (λ e. rw e) (λ e. rw e)
take_life zero (w ∷ v ∷ l) n h = absurd (omega arith)
take_life (suc k) (w ∷ l) n h =
    by_test _ (has n w)
    (λ e. rw e (omega arith))
    (λ e.
    let a : suc k - 1 ≡ k = omega arith in
    let b : suc (suc k) - 1 ≡ suc k = omega arith in
    rw (e, a, b) (take_life k l n (omega arith)))

pub life_moved : (w : List (List ℕ)) (n : ℕ) → length w ≤ 5 → life_in 5 (moved w) n ≡ life_in 5 w n - 1
unfolding moved life_in has
life_moved w n h = take_life 4 w n h

has_end : (n m : ℕ) (w : List ℕ) → has n (w ++ (m ∷ [])) ≡ has n w || eqb m n
unfolding has
has_end n m [] = by_test _ (eqb m n) (λ e. rw e) (λ e. rw e)
has_end n m (k ∷ w) = by_test _ (eqb k n) (λ e. rw e) (λ e. rw e (has_end n m w))

pub life_added :
    (w : List (List ℕ)) (n m : ℕ) →
    length w ≡ 5 →
    stored_in w m ≡ false →
    life_in 5 (added m w) n ≡ cond (eqb m n && eqb (life_in 5 w n) 0) 5 (life_in 5 w n)
unfolding added life_in stored_in
life_added [] n m l e = absurd (omega arith)
life_added (w ∷ r) n m l e =
    let q = or_no (has m w) (stored_in r m) e in
    by_test _ (has n w)
    (λ y. rw (has_end n m w, y) (by_test _ (eqb m n) (λ a. rw a) (λ a. rw a)))
    (λ y.
    by_test _ (eqb m n)
    (λ a.
    let i : m ≡ n = eqb-true m n a in
    let z : life_in 4 r n ≡ 0 = life_none 4 r n (rw i at q.1) in
    rw (has_end n m w, y, a, z))
    (λ a. rw (has_end n m w, y, a)))

-- ---- over the topics
pub stored_lives :
    (g : Gossip) (alive : ℕ → ℕ → ℕ) (n : ℕ) →
    ((t : ℕ) → length (store_in g t) ≡ 5) →
    ((t : ℕ) → t < 8 → life_in 5 (store_in g t) n ≡ alive t n) →
    stored g n ≡ some 8 (λ t. ltb 0 (alive t n))
unfolding stored
stored_lives g alive n size e =
    some_same 8 (λ t. stored_in (store_in g t) n) (λ t. ltb 0 (alive t n)) (λ t l.
    sym (life_stored 5 (store_in g t) n (let z = size t in omega arith)) ∙ ap (λ (k : ℕ). ltb 0 k) (e t l))
