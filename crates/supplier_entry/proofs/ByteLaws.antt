-- Laws of numbers as bytes: reading and writing undo each other, and the ends of `low_first` and `put_low`.
-- Assumes nothing.
use Rattle.index.proofs.Kit.{ℕ, ◌+◌, ◌-◌, ◌*◌, ◌<◌, ◌≤◌, ◌≡◌, refl, ap, ◌∙◌, arith}
use Prim.Native.Nat.{zero, suc, ◌/◌, ◌%◌, ◌^◌}
use mathlib.Core.List.{List, [], ◌∷◌}
use native.Mathlib.Nat.{pow-suc, pow-le-pow_right, zero-lt-suc}
use native.Mathlib.Numerals.{add-one}
use lib.ListN.{length, get_or, set, take, drop}
use lib.Seq.{sets, drop-cons}
use Rattle.supplier_entry.specs.Bytes.{low_first, low_bytes}

-- ---- reading and writing
pub first_bytes : (k n : ℕ) → n < 256 ^ k → low_first (low_bytes k n) ≡ n
unfolding low_first low_bytes
first_bytes zero n h = omega arith
first_bytes (suc k) n h =
    let p = pow-suc 256 k in
    let e = first_bytes k (n / 256) (omega arith) in
    omega arith

pub bytes_first : (s : List ℕ) → ((i : ℕ) → get_or s i 0 < 256) → low_bytes (length s) (low_first s) ≡ s
unfolding low_first low_bytes
bytes_first [] h = refl
bytes_first (b ∷ s) h =
    let m : b < 256 = h 0 in
    let q : (b + 256 * low_first s) / 256 ≡ low_first s = omega arith in
    let r : (b + 256 * low_first s) % 256 ≡ b = omega arith in
    rw (q, r, bytes_first s (λ i. h (suc i)))

pub length_bytes : (k n : ℕ) → length (low_bytes k n) ≡ k
unfolding low_bytes
length_bytes zero n = refl
length_bytes (suc k) n = ap suc (length_bytes k (n / 256))

pub first_lt : (s : List ℕ) → ((i : ℕ) → get_or s i 0 < 256) → low_first s < 256 ^ length s
unfolding low_first
first_lt [] h = omega arith
first_lt (b ∷ s) h =
    let m : b < 256 = h 0 in
    let p = pow-suc 256 (length s) in
    let e = first_lt s (λ i. h (suc i)) in
    omega arith

-- ---- the ends of `low_first`
-- one more byte in front
pub take_one : (k : ℕ) (s : List ℕ) (at : ℕ) → at < length s → take (suc k) (drop at s) ≡ get_or s at 0 ∷ take k (drop (at + 1) s)
take_one k s at h = rw (add-one, drop-cons s at 0 h)

none : (s : List ℕ) → 0 ≡ low_first (take 0 s)
unfolding low_first
none [] = refl
none (y ∷ s) = refl

pub low_end : (n : ℕ) (s : List ℕ) (at : ℕ) → n ≡ 0 → (0 ≡ low_first (take n (drop at s))) × (0 < 256 ^ n)
low_end n s at e = rw e (none (drop at s), omega arith)

pub low_room : (n r : ℕ) → 0 < n → n ≤ 8 → r < 256 ^ (n - 1) → r < 72057594037927936
low_room n r p q h =
    let l : 256 ^ (n - 1) ≤ 256 ^ 7 = pow-le-pow_right (zero-lt-suc 255) (let z : n - 1 ≤ 7 = omega arith in z) in
    omega arith

pub low_more :
    (n : ℕ) (s : List ℕ) (at b r : ℕ) → 0 < n → at < length s → b ≡ get_or s at 0 → b < 256 → r ≡ low_first (take (n - 1) (drop (at + 1) s)) →
    r < 256 ^ (n - 1) → (b + 256 * r ≡ low_first (take n (drop at s))) × (b + 256 * r < 256 ^ n)
unfolding low_first
low_more zero s at b r p h e l f g = absurd (omega arith)
low_more (suc n) s at b r p h e l f g =
    let q : suc n - 1 ≡ n = omega arith in
    let f' : r ≡ low_first (take n (drop (at + 1) s)) = rw q at f in
    let g' : r < 256 ^ n = rw q at g in
    let w = pow-suc 256 n in
    (rw (take_one n s at h, e, f'), omega arith)

-- ---- the ends of `put_low` and `export`
pub low_put :
    (l : List ℕ) (at k v : ℕ) → k < 8 →
    sets (set l (at + k) (v % 256)) (at + (k + 1)) (low_bytes (8 - (k + 1)) (v / 256)) ≡ sets l (at + k) (low_bytes (8 - k) v)
unfolding low_bytes
low_put l at k v h =
    let e : 8 - k ≡ suc (8 - (k + 1)) = omega arith in
    let a : at + (k + 1) ≡ suc (at + k) = omega arith in
    rw (e, a)

pub low_done : (l : List ℕ) (at k v : ℕ) → 8 ≤ k → sets l (at + k) (low_bytes (8 - k) v) ≡ l
unfolding low_bytes
low_done l at k v h = let e : 8 - k ≡ 0 = omega arith in rw e

pub entry_put : (l m : List ℕ) (at kind u : ℕ) → m ≡ sets (set l at kind) (at + 1) (low_bytes 8 u) → m ≡ sets l at (kind ∷ low_bytes 8 u)
entry_put l m at kind u e = e ∙ ap (λ (k : ℕ). sets (set l at kind) k (low_bytes 8 u)) (add-one at)
