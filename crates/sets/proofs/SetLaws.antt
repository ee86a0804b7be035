-- Laws of sets of slots: parts of sets, and the counts of what two sets share and do not share.
-- Assumes nothing.
use Prim.Native.Nat.{ℕ, zero, suc, ◌+◌, ◌≤◌, ◌<◌}
use native.Mathlib.Nat.{not-suc-le-zero, le_of_suc-le-suc, suc_inj}
use native.Mathlib.Omega.{arith}
use mathlib.Core.Path.{◌≡◌, refl, sym, ap, ap₂, ◌∙◌}
use mathlib.Core.Bool.{Bool, true, false, not, ◌&&◌, false≢true}
use mathlib.Core.List.{List, [], ◌∷◌}
use lib.ListN.{length, set, replicate}
use borrow.Author.Tests.{not-true}
use Rattle.index.proofs.Index.{both as halves}
use Rattle.sets.specs.Sets.{at, Sub, size, both, except}
use Rattle.sets.proofs.WalkLaws.{at_below, both_at, except_at}
use Rattle.sets.proofs.CountLaws.{size_mono, size_set_true, both_set}

pub both_left : (a b : List Bool) → Sub (both a b) a
both_left a b s e = (halves (at a s) (at b s) (sym (both_at a b s) ∙ e)).0

pub both_right : (a b : List Bool) → Sub (both a b) b
both_right a b s e = (halves (at a s) (at b s) (sym (both_at a b s) ∙ e)).1

pub both_in : (a b : List Bool) (s : ℕ) → at a s ≡ true → at b s ≡ true → at (both a b) s ≡ true
both_in a b s p q = both_at a b s ∙ ap (λ (x : Bool). x && at b s) p ∙ q

-- a set is what it shares with k and what it does not
pub size_split : (x k : List Bool) → size x ≡ size (both x k) + size (except x k)
unfolding size both except
size_split [] k = refl
size_split (true ∷ x) [] = omega arith
size_split (false ∷ x) [] = omega arith
size_split (true ∷ x) (true ∷ k) = let ih = size_split x k in omega arith
size_split (true ∷ x) (false ∷ k) = let ih = size_split x k in omega arith
size_split (false ∷ x) (true ∷ k) = size_split x k
size_split (false ∷ x) (false ∷ k) = size_split x k

pub at_none : (n s : ℕ) → at (replicate n false) s ≡ false
at_none zero s = refl
at_none (suc n) zero = refl
at_none (suc n) (suc s) = at_none n s

pub size_none : (n : ℕ) → size (replicate n false) ≡ 0
unfolding size
size_none zero = refl
size_none (suc n) = size_none n

pub except_left : (a o : List Bool) → Sub (except a o) a
except_left a o s e = (halves (at a s) (not (at o s)) (sym (except_at a o s) ∙ e)).0

pub both_sub : (a b o : List Bool) → Sub a b → Sub (both a o) (both b o)
both_sub a b o h s e = both_in b o s (h s (both_left a o s e)) (both_right a o s e)

pub both_below : (a b : List Bool) (s : ℕ) → s < length a → s < length b → s < length (both a b)
unfolding both
both_below [] b s p q = absurd (not-suc-le-zero p)
both_below (x ∷ a) [] s p q = absurd (not-suc-le-zero q)
both_below (x ∷ a) (y ∷ b) zero p q = omega arith
both_below (x ∷ a) (y ∷ b) (suc s) p q = let h = both_below a b s (le_of_suc-le-suc p) (le_of_suc-le-suc q) in omega arith

-- a slot that was out raises the count by one; among the outbound where it is outbound
pub grow_size :
    (n : ℕ) (p : List Bool) →
    length p ≡ n →
    (m : List Bool) (s : ℕ) →
    length m ≡ n →
    at p s ≡ true →
    at m s ≡ false →
    suc (size m) ≤ size (set m s true)
grow_size n p lp m s lm a f =
    let b = at_below p s a in
    let h : s < length m = omega arith in
    let e = size_set_true m s f h in
    omega arith

pub grow_outs :
    (n : ℕ) (p o : List Bool) →
    length p ≡ n →
    Sub p o →
    (m : List Bool) (s : ℕ) →
    length m ≡ n →
    at p s ≡ true →
    at m s ≡ false →
    suc (size (both m o)) ≤ size (both (set m s true) o)
grow_outs n p o lp sub m s lm a f =
    let b = at_below p s a in
    let h : s < length m = omega arith in
    let e = size_set_true (both m o) s (both_at m o s ∙ ap (λ (x : Bool). x && at o s) f) (both_below m o s h (at_below o s (sub s a))) in
    let q = ap size (both_set m o s true ∙ ap (set (both m o) s) (sub s a)) in
    omega arith

-- ---- sizes of what enters and leaves
pub size_diff : (a b : List Bool) → Sub a b → size b ≡ size a + size (except b a)
size_diff a b h =
    let s = size_split b a in
    let u = size_mono a (both b a) (λ k e. both_in b a k (h k e) e) in
    let w = size_mono (both b a) a (both_right b a) in
    omega arith

pub size_apart :
    (a b : List Bool) →
    length a ≡ length b →
    ((s : ℕ) → at a s ≡ true → at b s ≡ true → ⊥) →
    size a + size b ≤ length a
unfolding size
size_apart [] [] e h = omega arith
size_apart [] (y ∷ b) e h = let z : ⊥ = omega arith in absurd z
size_apart (x ∷ a) [] e h = let z : ⊥ = omega arith in absurd z
size_apart (true ∷ a) (true ∷ b) e h = absurd (h 0 refl refl)
size_apart (true ∷ a) (false ∷ b) e h = let i = size_apart a b (suc_inj e) (λ s p q. h (suc s) p q) in omega arith
size_apart (false ∷ a) (true ∷ b) e h = let i = size_apart a b (suc_inj e) (λ s p q. h (suc s) p q) in omega arith
size_apart (false ∷ a) (false ∷ b) e h = let i = size_apart a b (suc_inj e) (λ s p q. h (suc s) p q) in omega arith

-- ---- one slot of a set
-- a set that is not empty has a slot
pub some : (p : List Bool) → 0 < size p → (s : ℕ) × (at p s ≡ true)
unfolding size
some [] h = absurd (not-suc-le-zero h)
some (true ∷ p) h = (0, refl)
some (false ∷ p) h = let r = some p h in (suc r.0, r.1)

-- one slot less
pub size_unset : (m : List Bool) (s : ℕ) → at m s ≡ true → size m ≡ suc (size (set m s false))
unfolding size
size_unset [] s e = absurd (false≢true e)
size_unset (true ∷ m) zero e = refl
size_unset (false ∷ m) zero e = absurd (false≢true e)
size_unset (true ∷ m) (suc s) e = ap suc (size_unset m s e)
size_unset (false ∷ m) (suc s) e = size_unset m s e

pub except_in : (a o : List Bool) (s : ℕ) → at a s ≡ true → at o s ≡ false → at (except a o) s ≡ true
except_in a o s p q = except_at a o s ∙ ap₂ (λ (x y : Bool). x && not y) p q

pub except_out : (a o : List Bool) (s : ℕ) → at (except a o) s ≡ true → at o s ≡ false
except_out a o s e = not-true (at o s) (halves (at a s) (not (at o s)) (sym (except_at a o s) ∙ e)).1
