-- Tests, searches, counts and walks over the indices below a number, as definitions that compute.
-- Everything above goes by these and by their laws (proofs/Index.antt), so a change here is a change of every statement.
use Rattle.std.specs.Prelude.{Option, Some, None}
use Rattle.std.specs.Prelude.{ℕ, zero, suc, ◌+◌, Bool, true, false, ◌&&◌, cond, List, [], ◌++◌}

-- f holds at every index below n
unfoldable pub every : ℕ → (ℕ → Bool) → Bool
every zero f = true
every (suc n) f = every n f && f n

abbrev pub or_else : Option ℕ → Option ℕ → Option ℕ
or_else (Some i) g = Some i
or_else None g = g

-- the first index below n at which f holds
unfoldable pub first : ℕ → (ℕ → Bool) → Option ℕ
first zero f = None
first (suc n) f = or_else (first n f) (cond (f n) (Some n) None)

abbrev pub one : Bool → ℕ
one true = 1
one false = 0

-- at how many indices below n f holds
unfoldable pub count : ℕ → (ℕ → Bool) → ℕ
count zero f = 0
count (suc n) f = count n f + one (f n)

-- what f makes of s, at each index below n in order
unfoldable pub iter : {S : Type 0} → ℕ → (ℕ → S → S) → S → S
iter zero f s = s
iter (suc n) f s = f n (iter n f s)

-- the lists that f gives at the indices below n, one after the other
unfoldable pub gather : {A : Type 0} → ℕ → (ℕ → List A) → List A
gather zero f = []
gather (suc n) f = gather n f ++ f n
