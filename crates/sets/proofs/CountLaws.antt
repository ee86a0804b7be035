-- Counting the slots of a set: what one slot more or less, `fill` and `bests` do to a count.
-- Assumes nothing.
use Prim.Native.Nat.{ℕ, zero, suc, ◌+◌, ◌-◌, ◌≤◌, ◌<◌, zero-le, suc-le-suc}
use native.Mathlib.Nat.{not-suc-le-zero, le_of_suc-le-suc}
use native.Mathlib.Omega.{arith}
use mathlib.Core.Path.{◌≡◌, refl, sym, ap, ◌∙◌}
use mathlib.Core.Bool.{Bool, true, false, not, cond, ◌&&◌, and-true, false≢true}
use mathlib.Core.Logic.{◌⊎◌, inl, inr, ⊎_elim}
use mathlib.Core.List.{List, [], ◌∷◌}
use lib.ListN.{length, set, length-set}
use lib.Seq.{get_or-set_same, set_out}
use lib.Dec.{ltb}
use borrow.Author.Tests.{ltb-true, ltb-false, not-true, not-false}
use Rattle.index.proofs.Index.{both as halves}
use Rattle.index.proofs.Flags.{by_test}
use Rattle.index.proofs.Lists.{set_case}
use Rattle.sets.specs.Sets.{at, Sub, size, both, except, takes, fill, better, top, bests}
use Rattle.sets.proofs.WalkLaws.{at_below, except_at, takes_at, takes_room, takes_free, fill_cons}

pub size_mono : (a b : List Bool) → Sub a b → size a ≤ size b
unfolding size
size_mono [] b h = zero-le
size_mono (true ∷ a) [] h = absurd (false≢true (h 0 refl))
size_mono (false ∷ a) [] h = size_mono a [] (λ s e. h (suc s) e)
size_mono (true ∷ a) (true ∷ b) h = suc-le-suc (size_mono a b (λ s e. h (suc s) e))
size_mono (true ∷ a) (false ∷ b) h = absurd (false≢true (h 0 refl))
size_mono (false ∷ a) (true ∷ b) h = let ih = size_mono a b (λ s e. h (suc s) e) in omega arith
size_mono (false ∷ a) (false ∷ b) h = size_mono a b (λ s e. h (suc s) e)

-- ---- one slot more, one slot less
pub size_set_le : (m : List Bool) (s : ℕ) → size (set m s true) ≤ suc (size m)
unfolding size
size_set_le [] s = zero-le
size_set_le (true ∷ m) zero = omega arith
size_set_le (false ∷ m) zero = omega arith
size_set_le (true ∷ m) (suc s) = suc-le-suc (size_set_le m s)
size_set_le (false ∷ m) (suc s) = size_set_le m s

pub size_set_true : (m : List Bool) (s : ℕ) → at m s ≡ false → s < length m → size (set m s true) ≡ suc (size m)
unfolding size
size_set_true [] s e h = absurd (not-suc-le-zero h)
size_set_true (true ∷ m) zero e h = absurd (false≢true (sym e))
size_set_true (false ∷ m) zero e h = refl
size_set_true (true ∷ m) (suc s) e h = ap suc (size_set_true m s e (le_of_suc-le-suc h))
size_set_true (false ∷ m) (suc s) e h = size_set_true m s e (le_of_suc-le-suc h)

pub size_unset_le : (m : List Bool) (s : ℕ) → size (set m s false) ≤ size m
unfolding size
size_unset_le [] s = zero-le
size_unset_le (true ∷ m) zero = omega arith
size_unset_le (false ∷ m) zero = omega arith
size_unset_le (true ∷ m) (suc s) = suc-le-suc (size_unset_le m s)
size_unset_le (false ∷ m) (suc s) = size_unset_le m s

pub size_unset_ge : (m : List Bool) (s : ℕ) → size m ≤ suc (size (set m s false))
unfolding size
size_unset_ge [] s = zero-le
size_unset_ge (true ∷ m) zero = omega arith
size_unset_ge (false ∷ m) zero = omega arith
size_unset_ge (true ∷ m) (suc s) = suc-le-suc (size_unset_ge m s)
size_unset_ge (false ∷ m) (suc s) = size_unset_ge m s

pub both_set : (m o : List Bool) (s : ℕ) (x : Bool) → both (set m s x) o ≡ set (both m o) s (x && at o s)
unfolding both
both_set [] o s x = refl
both_set (y ∷ m) [] zero x = refl
both_set (y ∷ m) [] (suc s) x = refl
both_set (y ∷ m) (z ∷ o) zero x = refl
both_set (y ∷ m) (z ∷ o) (suc s) x = ap (λ (l : List Bool). (y && z) ∷ l) (both_set m o s x)

pub except_set : (m o : List Bool) (s : ℕ) (x : Bool) → except (set m s x) o ≡ set (except m o) s (x && not (at o s))
unfolding except
except_set [] o s x = refl
except_set (y ∷ m) [] zero x = ap (λ (b : Bool). b ∷ m) (sym (and-true x))
except_set (y ∷ m) [] (suc s) x = ap (λ (b : Bool). y ∷ set m s b) (sym (and-true x))
except_set (y ∷ m) (z ∷ o) zero x = refl
except_set (y ∷ m) (z ∷ o) (suc s) x = ap (λ (l : List Bool). (y && not z) ∷ l) (except_set m o s x)

set_either : (m : List Bool) (s : ℕ) (b : Bool) → size (set m s b) ≤ suc (size m)
set_either m s true = size_set_le m s
set_either m s false = let h = size_unset_le m s in omega arith

pub up_except : (o m : List Bool) (s : ℕ) → size (except (set m s true) o) ≤ suc (size (except m o))
up_except o m s = rw (except_set m o s true) (set_either (except m o) s (not (at o s)))

-- an outbound slot does not count among the inbound
pub flat_except : (o m : List Bool) (s : ℕ) → at o s ≡ true → size (except (set m s true) o) ≤ size (except m o)
flat_except o m s e = rw (except_set m o s true, e) (size_unset_le (except m o) s)

-- taking out lowers no count by more than one, and raises none
pub down_except : (o m : List Bool) (s : ℕ) → size (except (set m s false) o) ≤ size (except m o)
down_except o m s = rw (except_set m o s false) (size_unset_le (except m o) s)

-- ---- what a pass takes and leaves
pub takes_none : (p : List Bool) (k : ℕ) (m : List Bool) (s : ℕ) → k ≤ 0 → takes p k m s ≡ false
takes_none p k m s h = by_test _ (takes p k m s)
    (λ e. let l = takes_room p k m s e in let z : ⊥ = omega arith in absurd z)
    (λ e. e)

-- a slot that is passed over: no room, not asked for, or in already
pub passed :
    (p : List Bool) (k : ℕ) (m : List Bool) (s : ℕ) →
    takes p k m s ≡ false →
    (k ≤ 0) ⊎ ((at p s ≡ false) ⊎ (at m s ≡ true))
passed p k m s e =
    by_test _ (ltb 0 k)
    (λ room.
    by_test _ (at p s)
    (λ asked. inr (inr (not-false (at m s) (sym (takes_free p k m s (ltb-true 0 k room) asked) ∙ e))))
    (λ no_one. inr (inl no_one)))
    (λ full. inl (ltb-false 0 k full))

pub fill_zero : (p : List Bool) (r : List ℕ) (k : ℕ) (m : List Bool) → k ≤ 0 → fill p k r m ≡ m
unfolding fill
fill_zero p [] k m h = refl
fill_zero p (s ∷ r) k m h = fill_cons p k s r m false (takes_none p k m s h) ∙ fill_zero p r k m h

pub at_set_same : (m : List Bool) (s : ℕ) → s < length m → at (set m s true) s ≡ true
at_set_same m s h = get_or-set_same m s true false h

-- what is in stays in when a slot is put in
pub set_keeps : (m : List Bool) (s x : ℕ) → at m x ≡ true → at (set m s true) x ≡ true
set_keeps m s x e = set_case (λ b. b ≡ true) m s x true false (λ q. refl) e

-- what is in after a slot was put in was in or is the slot
pub set_only : (m : List Bool) (s x : ℕ) → at (set m s true) x ≡ true → (at m x ≡ true) ⊎ (x ≡ s)
set_only m s x = set_case (λ b. b ≡ true → (at m x ≡ true) ⊎ (x ≡ s)) m s x true false (λ q e. inr q) (λ e. inl e)

pub fill_length : (p : List Bool) (r : List ℕ) (k : ℕ) (m : List Bool) → length (fill p k r m) ≡ length m
unfolding fill
fill_length p [] k m = refl
fill_length p (s ∷ r) k m =
    by_test _ (takes p k m s)
    (λ e. ap length (fill_cons p k s r m true e) ∙ fill_length p r (k - 1) (set m s true) ∙ length-set m s true)
    (λ e. ap length (fill_cons p k s r m false e) ∙ fill_length p r k m)

pub fill_sub : (p : List Bool) (r : List ℕ) (k : ℕ) (m : List Bool) → Sub m (fill p k r m)
unfolding fill
fill_sub p [] k m x e = e
fill_sub p (s ∷ r) k m x e =
    by_test _ (takes p k m s)
    (λ t. ap (λ (l : List Bool). at l x) (fill_cons p k s r m true t) ∙ fill_sub p r (k - 1) (set m s true) x (set_keeps m s x e))
    (λ t. ap (λ (l : List Bool). at l x) (fill_cons p k s r m false t) ∙ fill_sub p r k m x e)

pub fill_only :
    (p : List Bool) (r : List ℕ) (k : ℕ) (m : List Bool) (x : ℕ) →
    at (fill p k r m) x ≡ true →
    (at m x ≡ true) ⊎ (at p x ≡ true)
unfolding fill
fill_only p [] k m x e = inl e
fill_only p (s ∷ r) k m x e =
    by_test _ (takes p k m s)
    (λ t.
    ⊎_elim
    (λ h. ⊎_elim (λ a. inl a) (λ q. inr (ap (at p) q ∙ takes_at p k m s t)) (set_only m s x h))
    (λ a. inr a)
    (fill_only p r (k - 1) (set m s true) x (sym (ap (λ (l : List Bool). at l x) (fill_cons p k s r m true t)) ∙ e)))
    (λ t. fill_only p r k m x (sym (ap (λ (l : List Bool). at l x) (fill_cons p k s r m false t)) ∙ e))

-- a count that one slot more raises by at most one is raised by at most k
pub fill_upper :
    (p : List Bool) (μ : List Bool → ℕ) →
    ((m : List Bool) (s : ℕ) → μ (set m s true) ≤ suc (μ m)) →
    (r : List ℕ) (k : ℕ) (m : List Bool) →
    μ (fill p k r m) ≤ μ m + k
unfolding fill
fill_upper p μ up [] k m = omega arith
fill_upper p μ up (s ∷ r) k m =
    by_test _ (takes p k m s)
    (λ t.
    let e = ap μ (fill_cons p k s r m true t) in
    let ih = fill_upper p μ up r (k - 1) (set m s true) in
    let one = up m s in
    let room = takes_room p k m s t in
    omega arith)
    (λ t.
    let e = ap μ (fill_cons p k s r m false t) in
    let ih = fill_upper p μ up r k m in
    omega arith)

-- a count that no slot of p raises stays
pub fill_flat :
    (p : List Bool) (μ : List Bool → ℕ) →
    ((m : List Bool) (s : ℕ) → at p s ≡ true → μ (set m s true) ≤ μ m) →
    (r : List ℕ) (k : ℕ) (m : List Bool) →
    μ (fill p k r m) ≤ μ m
unfolding fill
fill_flat p μ flat [] k m = omega arith
fill_flat p μ flat (s ∷ r) k m =
    by_test _ (takes p k m s)
    (λ t.
    let e = ap μ (fill_cons p k s r m true t) in
    let ih = fill_flat p μ flat r (k - 1) (set m s true) in
    let one = flat m s (takes_at p k m s t) in
    omega arith)
    (λ t.
    let e = ap μ (fill_cons p k s r m false t) in
    let ih = fill_flat p μ flat r k m in
    omega arith)

-- membership of a order
abbrev pub In : ℕ → List ℕ → Type 0
In x [] = ⊥
In x (y ∷ r) = (x ≡ y) ⊎ In x r

-- a count that each slot of p raises by one is raised by k, or all of p that is in_order is in
pub fill_reach :
    (n : ℕ) (p : List Bool) (μ : List Bool → ℕ)
    → length p ≡ n
    → ((m : List Bool) (s : ℕ) → length m ≡ n → at p s ≡ true → at m s ≡ false → suc (μ m) ≤ μ (set m s true))
    → (r : List ℕ) (k : ℕ) (m : List Bool)
    → length m ≡ n
    → (μ m + k ≤ μ (fill p k r m)) ⊎ ((x : ℕ) → In x r → at p x ≡ true → at (fill p k r m) x ≡ true)
fill_reach n p μ lp grow [] k m lm = inr (λ x i e. absurd i)
fill_reach n p μ lp grow (s ∷ r) k m lm =
    by_test _ (takes p k m s)
    (λ t.
    let e = fill_cons p k s r m true t in
    let asked = takes_at p k m s t in
    let room = takes_room p k m s t in
    let free : at m s ≡ false = not-true (at m s) (sym (takes_free p k m s room asked) ∙ t) in
    let one = grow m s lm asked free in
    let below : s < length m = let b = at_below p s asked in omega arith in
    ⊎_elim
    (λ h. let q = ap μ e in inl (omega arith))
    (λ h.
    inr
    (λ x i a.
    ap (λ (l : List Bool). at l x) e
    ∙ ⊎_elim (λ q. fill_sub p r (k - 1) (set m s true) x (ap (at (set m s true)) q ∙ at_set_same m s below)) (λ j. h x j a) i))
    (fill_reach n p μ lp grow r (k - 1) (set m s true) (length-set m s true ∙ lm)))
    (λ t.
    let e = fill_cons p k s r m false t in
    ⊎_elim
    (λ full. let q = ap μ (fill_zero p (s ∷ r) k m full) in inl (omega arith))
    (λ why.
    ⊎_elim
    (λ h. let q = ap μ e in inl (omega arith))
    (λ h.
    inr
    (λ x i a.
    ap (λ (l : List Bool). at l x) e
    ∙ ⊎_elim
    (λ q.
    ⊎_elim
    (λ no_one. absurd (false≢true (sym no_one ∙ sym (ap (at p) q) ∙ a)))
    (λ there. fill_sub p r k m x (ap (at m) q ∙ there))
    why)
    (λ j. h x j a)
    i))
    (fill_reach n p μ lp grow r k m lm))
    (passed p k m s t))

-- ---- taking out
pub set_drops : (m : List Bool) (s x : ℕ) → at (set m s false) x ≡ true → at m x ≡ true
set_drops m s x = set_case (λ b. b ≡ true → at m x ≡ true) m s x false false (λ q e. absurd (false≢true e)) (λ e. e)

-- ---- the best
-- what `top` finds is in p, or it found nothing
pub top_in :
    (n : ℕ) (sc : List ℕ) (p : List Bool) (r : List ℕ) (cur : ℕ) →
    (top n sc p r cur ≡ cur) ⊎ (at p (top n sc p r cur) ≡ true)
unfolding top
top_in n sc p [] cur = inl refl
top_in n sc p (s ∷ r) cur =
    by_test _ (at p s && better n sc cur s)
    (λ t.
    let e = ap (λ (b : Bool). top n sc p r (cond b s cur)) t in
    ⊎_elim
    (λ q. inr (ap (at p) (e ∙ q) ∙ (halves (at p s) (better n sc cur s) t).0))
    (λ q. inr (ap (at p) e ∙ q))
    (top_in n sc p r s))
    (λ t.
    let e = ap (λ (b : Bool). top n sc p r (cond b s cur)) t in
    ⊎_elim (λ q. inl (e ∙ q)) (λ q. inr (ap (at p) e ∙ q)) (top_in n sc p r cur))

pub bests_upper :
    (n : ℕ) (sc : List ℕ) (m : List Bool) (order : List ℕ) (k : ℕ) (b : List Bool) →
    size (bests n sc m order k b) ≤ size b + k
unfolding bests
bests_upper n sc m order zero b = omega arith
bests_upper n sc m order (suc k) b =
    let s = top n sc (except m b) order n in
    let ih = bests_upper n sc m order k (set b s true) in
    let one = size_set_le b s in
    omega arith

pub bests_length :
    (n : ℕ) (sc : List ℕ) (m : List Bool) (order : List ℕ) (k : ℕ) (b : List Bool) →
    length (bests n sc m order k b) ≡ length b
unfolding bests
bests_length n sc m order zero b = refl
bests_length n sc m order (suc k) b =
    bests_length n sc m order k (set b (top n sc (except m b) order n) true) ∙ length-set b (top n sc (except m b) order n) true

pub bests_only :
    (n : ℕ) (sc : List ℕ) (m : List Bool) (order : List ℕ) (k : ℕ) (b : List Bool) →
    length b ≡ n →
    Sub b m →
    Sub (bests n sc m order k b) m
unfolding bests
bests_only n sc m order zero b lb h = h
bests_only n sc m order (suc k) b lb h =
    let s = top n sc (except m b) order n in
    bests_only n sc m order k (set b s true) (length-set b s true ∙ lb)
    (λ x e.
    ⊎_elim
    (λ a. h x a)
    (λ q.
    ⊎_elim
    (λ None-found.
    let out : length b ≤ s = omega arith in
    h x (sym (ap (λ (l : List Bool). at l x) (set_out b s true out)) ∙ e))
    (λ found. ap (at m) q ∙ (halves (at m s) (not (at b s)) (sym (except_at m b s) ∙ found)).0)
    (top_in n sc (except m b) order n))
    (set_only b s x e))
