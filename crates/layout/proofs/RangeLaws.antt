-- What `all` answers over a range or over a slice, in the words of crate index.
-- Assumes nothing.
use Prim.Native.Nat.{ℕ, ◌+◌, ◌<◌}
use mathlib.Core.Path.{◌≡◌, sym, ◌∙◌, subst}
use mathlib.Core.Bool.{Bool, true, false, true≢false}
use mathlib.Core.List.{List}
use native.Mathlib.Omega.{arith}
use lib.ListN.{length, get_or}
use Rattle.std.specs.Bool.{MatchBool}
use Rattle.std.specs.List.{range_with_len, AllWithin, HoldsAt}
use Rattle.std.proofs.lemmas.List.FromFn.{length-range_with_len, get_or-range_with_len}
use Rattle.index.specs.Index.{every}
use Rattle.index.proofs.Index.{every_in, every_by, every_out}

-- the k-th number below n is k
numbers_at : (P : ℕ → Type 0) (n k : ℕ) → k < n → ((d : ℕ) → P (get_or (range_with_len 0 n) k d)) → P k
numbers_at P n k l h =
    let e : 0 + k ≡ k = omega arith in
    subst P (get_or-range_with_len 0 n k 0 l ∙ e) (h 0)

-- P of every number below n, where `all` said `true`
pub each_number :
    (P : ℕ → Type 0) (n : ℕ) → AllWithin P (range_with_len 0 n) 0 (length (range_with_len 0 n)) → (k : ℕ) → k < n → P k
each_number P n h k l =
    let z = length-range_with_len 0 n in
    numbers_at P n k l (λ d. h k d (omega arith) (omega arith))

pub each_if :
    (P Q : ℕ → Type 0) (n : ℕ) (r : Bool) →
    MatchBool r (AllWithin P (range_with_len 0 n) 0 (length (range_with_len 0 n)))
    ((k : ℕ) × (k < length (range_with_len 0 n)) × HoldsAt Q (range_with_len 0 n) k) →
    r ≡ true →
    (k : ℕ) →
    k < n →
    P k
each_if P Q n true h e = each_number P n h
each_if P Q n false h e = absurd (true≢false (sym e))

pub every_number :
    (f : ℕ → Bool) (n : ℕ) (r : Bool) →
    MatchBool r (AllWithin (λ k. f k ≡ true) (range_with_len 0 n) 0 (length (range_with_len 0 n)))
    ((k : ℕ) × (k < length (range_with_len 0 n)) × HoldsAt (λ k. f k ≡ false) (range_with_len 0 n) k) →
    r ≡ every n f
every_number f n true h = every_in f n n (omega arith) (omega arith) (every_by f n (each_number (λ k. f k ≡ true) n h))
every_number f n false h =
    let z = length-range_with_len 0 n in
    let l : h.0 < n = let q = h.1 in omega arith in
    every_out f n h.0 l (numbers_at (λ k. f k ≡ false) n h.0 l h.2)

pub every_item :
    {X : Type 0} (f : X → Bool) (d : X) (xs : List X) (n : ℕ) (r : Bool) →
    length xs ≡ n →
    MatchBool r (AllWithin (λ x. f x ≡ true) xs 0 (length xs)) ((k : ℕ) × (k < length xs) × HoldsAt (λ x. f x ≡ false) xs k) →
    r ≡ every n (λ k. f (get_or xs k d))
every_item f d xs n true e h =
    every_in (λ k. f (get_or xs k d)) n n (omega arith) (omega arith)
    (every_by (λ k. f (get_or xs k d)) n (λ k l. h k d (omega arith) (omega arith)))
every_item f d xs n false e h = every_out (λ k. f (get_or xs k d)) n h.0 (let q = h.1 in omega arith) (h.2 d)
