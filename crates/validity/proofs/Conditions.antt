-- Computed conjunctions and conditions: taken apart, and put together.
-- Assumes nothing.
use Prim.Native.Nat.{ℕ}
use native.Mathlib.Omega.{arith}
use mathlib.Core.Path.{◌≡◌, refl}
use mathlib.Core.Bool.{Bool, true, false, not, ◌&&◌, ◌||◌}
use Rattle.index.proofs.Index.{both}
use Rattle.index.proofs.Flags.{all5}

-- the parts of a conjunction that holds
pub all3 : (a b c : Bool) → a && b && c ≡ true → (a ≡ true) × (b ≡ true) × (c ≡ true)
all3 a b c p =
    let q = both (a && b) c p in
    let r = both a b q.0 in
    (r.0, r.1, q.1)

pub all4 : (a b c d : Bool) → a && b && c && d ≡ true → (a ≡ true) × (b ≡ true) × (c ≡ true) × (d ≡ true)
all4 a b c d p =
    let q = both (a && b && c) d p in
    let r = both (a && b) c q.0 in
    let s = both a b r.0 in
    (s.0, s.1, r.1, q.1)

pub all6 :
    (a b c d e f : Bool) →
    a && b && c && d && e && f ≡ true →
    (a ≡ true) × (b ≡ true) × (c ≡ true) × (d ≡ true) × (e ≡ true) × (f ≡ true)
all6 a b c d e f p =
    let q = both (a && b && c && d && e) f p in
    let r = all5 a b c d e q.0 in
    (r.0, r.1, r.2, r.3, r.4, q.1)

pub all8 :
    (a b c d e f g h : Bool) →
    a && b && c && d && e && f && g && h ≡ true →
    (a ≡ true) × (b ≡ true) × (c ≡ true) × (d ≡ true) × (e ≡ true) × (f ≡ true) × (g ≡ true) × (h ≡ true)
all8 a b c d e f g h p =
    let q = both (a && b && c && d && e && f && g) h p in
    let r = both (a && b && c && d && e && f) g q.0 in
    let s = all6 a b c d e f r.0 in
    (s.0, s.1, s.2, s.3, s.4, s.5, r.1, q.1)

pub all9 :
    (a b c d e f g h k : Bool) →
    a && b && c && d && e && f && g && h && k ≡ true →
    (a ≡ true) × (b ≡ true) × (c ≡ true) × (d ≡ true) × (e ≡ true) × (f ≡ true) × (g ≡ true) × (h ≡ true) × (k ≡ true)
all9 a b c d e f g h k p =
    let q = both (a && b && c && d && e && f && g && h) k p in
    let r = all8 a b c d e f g h q.0 in
    (r.0, r.1, r.2, r.3, r.4, r.5, r.6, r.7, q.1)

-- "not a, or b": what follows from a
pub then : (a b : Bool) → not a || b ≡ true → a ≡ true → b ≡ true
then true b e h = e
then false b e h = let z : ◌≡◌ {A = ℕ} 0 1 = cc in absurd (omega arith)

pub then_by : (a b : Bool) → (a ≡ true → b ≡ true) → not a || b ≡ true
then_by true b h = h refl
then_by false b h = refl

-- "a, or b": what follows from not a
pub else : (a b : Bool) → a || b ≡ true → a ≡ false → b ≡ true
else true b e h = let z : ◌≡◌ {A = ℕ} 0 1 = cc in absurd (omega arith)
else false b e h = e

pub else_by : (a b : Bool) → (a ≡ false → b ≡ true) → a || b ≡ true
else_by true b h = refl
else_by false b h = h refl
