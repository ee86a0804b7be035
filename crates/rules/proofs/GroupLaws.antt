-- The groups of a connect: a list that passes test 2 is held as test 12 asks.
-- Assumes nothing.
use Prim.Native.Nat.{ℕ, suc, ◌+◌, ◌-◌, ◌<◌, ◌≤◌}
use native.Mathlib.Omega.{arith}
use mathlib.Core.Path.{◌≡◌, refl}
use mathlib.Core.Bool.{Bool, true, false, ◌&&◌, ◌||◌}
use mathlib.Core.List.{List, [], ◌∷◌}
use lib.Dec.{eqb, leb, ltb}
use lib.ListN.{length, get_or}
use borrow.Author.Tests.{le-leb, leb-true, lt-ltb, ltb-true, ne_eqb}
use Rattle.index.specs.Index.{every}
use Rattle.index.proofs.Index.{both, every_at}
use Rattle.validity.specs.Valid.{max_id, max_group, follows, rising_ok}
use Rattle.rules.specs.Calls.{group_ok, groups_ok, groups_of}

-- a group of 32 bits, and one above another
follows_by : (a b : ℕ) → a < b → b ≤ max_id → follows (a + 1) (b + 1) ≡ true
follows_by a b h m =
    rw (
      ne_eqb (b + 1) 0 (λ e. omega arith),
      le-leb 1 (a + 1) (omega arith),
      lt-ltb (a + 1) (b + 1) (omega arith),
      le-leb (b + 1) max_group (omega arith),
    ) refl

four : (a b c d : Bool) → a ≡ true → b ≡ true → c ≡ true → d ≡ true → a && b && c && d ≡ true
four a b c d p q r t = rw (p, q, r, t) refl

-- what a list in range is: one to four groups of 32 bits, each but the first above the one before
module _ (groups : List ℕ) (ok : groups_ok groups ≡ true) where
  parts :
      (leb 1 (length groups) ≡ true) × (leb (length groups) 4 ≡ true) × (every (length groups) (group_ok groups) ≡ true)
  unfolding groups_ok
  parts =
      let q = both (leb 1 (length groups) && leb (length groups) 4) (every (length groups) (group_ok groups)) ok in
      let r = both (leb 1 (length groups)) (leb (length groups) 4) q.0 in
      (r.0, r.1, q.1)

  pub group_some : 1 ≤ length groups
  group_some = leb-true 1 (length groups) parts.0

  pub group_few : length groups ≤ 4
  group_few = leb-true (length groups) 4 parts.1

  each :
      (k : ℕ) → k < length groups →
      (leb (get_or groups k 0) max_id ≡ true) × (eqb k 0 || ltb (get_or groups (k - 1) 0) (get_or groups k 0) ≡ true)
  each k h =
      both (leb (get_or groups k 0) max_id) (eqb k 0 || ltb (get_or groups (k - 1) 0) (get_or groups k 0))
      (every_at (group_ok groups) (length groups) k parts.2 h)

  pub group_most : (k : ℕ) → k < length groups → get_or groups k 0 ≤ max_id
  group_most k h = leb-true (get_or groups k 0) max_id (each k h).0

  pub group_above : (k : ℕ) → suc k < length groups → get_or groups k 0 < get_or groups (suc k) 0
  group_above k h =
      let e = (each (suc k) h).1 in
      let z : suc k - 1 ≡ k = omega arith in
      ltb-true (get_or groups k 0) (get_or groups (suc k) 0) (rw (ne_eqb (suc k) 0 (λ q. omega arith), z) at e)

pub groups_held : (groups : List ℕ) → groups_ok groups ≡ true → (rising_ok (groups_of groups) ≡ true) × (1 ≤ (groups_of groups).first)
unfolding rising_ok groups_of
groups_held [] ok = absurd (omega (arith, group_some [] ok))
groups_held (a ∷ []) ok =
    let m = group_most (a ∷ []) ok 0 (omega arith) in
    (four _ _ _ _ (le-leb (a + 1) max_group (omega arith)) refl refl refl, omega arith)
groups_held (a ∷ b ∷ []) ok =
    let l = a ∷ b ∷ [] in
    let m = group_most l ok 0 (omega arith) in
    let n = follows_by a b (ltb-true a b (each l ok 1 (omega arith)).1) (group_most l ok 1 (omega arith)) in
    (four _ _ _ _ (le-leb (a + 1) max_group (omega arith)) n refl refl, omega arith)
groups_held (a ∷ b ∷ c ∷ []) ok =
    let l = a ∷ b ∷ c ∷ [] in
    let m = group_most l ok 0 (omega arith) in
    let n = follows_by a b (ltb-true a b (each l ok 1 (omega arith)).1) (group_most l ok 1 (omega arith)) in
    let o = follows_by b c (ltb-true b c (each l ok 2 (omega arith)).1) (group_most l ok 2 (omega arith)) in
    (four _ _ _ _ (le-leb (a + 1) max_group (omega arith)) n o refl, omega arith)
groups_held (a ∷ b ∷ c ∷ d ∷ []) ok =
    let l = a ∷ b ∷ c ∷ d ∷ [] in
    let m = group_most l ok 0 (omega arith) in
    let n = follows_by a b (ltb-true a b (each l ok 1 (omega arith)).1) (group_most l ok 1 (omega arith)) in
    let o = follows_by b c (ltb-true b c (each l ok 2 (omega arith)).1) (group_most l ok 2 (omega arith)) in
    let p = follows_by c d (ltb-true c d (each l ok 3 (omega arith)).1) (group_most l ok 3 (omega arith)) in
    (four _ _ _ _ (le-leb (a + 1) max_group (omega arith)) n o p, omega arith)
groups_held (a ∷ b ∷ c ∷ d ∷ e ∷ l) ok = absurd (omega (arith, group_few (a ∷ b ∷ c ∷ d ∷ e ∷ l) ok))

-- one group is in range as 01 says: 32 bits
pub one_group : (group : ℕ) → groups_ok (group ∷ []) ≡ leb group max_id
unfolding groups_ok every
one_group group = and_true (leb group max_id)
  where
    and_true : (a : Bool) → a && true ≡ a
    and_true true = refl
    and_true false = refl
