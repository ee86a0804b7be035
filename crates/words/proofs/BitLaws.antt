-- One word as a list of bits, for any number of bits: and, and-not, one bit set or clear, the count, the lowest bit and the word without
-- it. Assumes nothing.
use Prim.Native.Nat.{ℕ, zero, suc, ◌+◌, ◌-◌, ◌*◌, ◌/◌, ◌%◌, ◌^◌, ◌<◌, min, max}
use native.Mathlib.Omega.{arith}
use native.Mathlib.Nat.{mod-lt, pow-suc, le_of_suc-le-suc, zero-lt-suc, not-suc-le-zero, min-zero, zero-min, one-mul, zero-mul}
use native.Mathlib.Numerals.{add-one}
use mathlib.Core.Path.{◌≡◌, refl, sym, ap, ap₂, ◌∙◌}
use mathlib.Core.Logic.{◌⊎◌, inl, inr, ⊎_elim}
use mathlib.Core.Bool.{Bool, true, false, not, ◌&&◌, ◌||◌, and-true, and-false}
use mathlib.Core.List.{List, ◌∷◌}
use lib.Dec.{eqb}
use lib.ListN.{length, get_or, set, length-set}
use lib.Seq.{ext_get_or, get_or-set_same, get_or-set_other}
use lib.Pow.{shr-shr, pow-lt}
use lib.Bits.{bit_and, bit_or, bit_xor, differ, and_step, or_step, xor_step, and_self}
use lib.Count.{ones, ones_step, count_trailing_zeros}
use borrow.Author.Tests.{ne_eqb}
use Rattle.index.specs.Index.{count, one}
use Rattle.index.proofs.Flags.{by_order}
use Rattle.words.specs.Words.{odd, unit, bits, differs, lowest}

-- ---- digits
bin : (n : ℕ) → n < 2 → (n ≡ 0) ⊎ (n ≡ 1)
bin zero h = inl refl
bin (suc zero) h = inr refl
bin (suc (suc n)) h = absurd (omega arith)

digit : (n : ℕ) → (n % 2 ≡ 0) ⊎ (n % 2 ≡ 1)
digit n = bin (n % 2) (mod-lt n (zero-lt-suc 1))

min_digit : (x y : ℕ) → x < 2 → y < 2 → (eqb (min x y) 1 ≡ (eqb x 1 && eqb y 1)) × (min x y < 2)
min_digit zero zero h l = (refl, omega arith)
min_digit zero (suc zero) h l = (refl, omega arith)
min_digit (suc zero) zero h l = (refl, omega arith)
min_digit (suc zero) (suc zero) h l = (refl, omega arith)
min_digit zero (suc (suc y)) h l = absurd (omega arith)
min_digit (suc zero) (suc (suc y)) h l = absurd (omega arith)
min_digit (suc (suc x)) y h l = absurd (omega arith)

max_digit : (x y : ℕ) → x < 2 → y < 2 → (eqb (max x y) 1 ≡ (eqb x 1 || eqb y 1)) × (max x y < 2)
max_digit zero zero h l = (refl, omega arith)
max_digit zero (suc zero) h l = (refl, omega arith)
max_digit (suc zero) zero h l = (refl, omega arith)
max_digit (suc zero) (suc zero) h l = (refl, omega arith)
max_digit zero (suc (suc y)) h l = absurd (omega arith)
max_digit (suc zero) (suc (suc y)) h l = absurd (omega arith)
max_digit (suc (suc x)) y h l = absurd (omega arith)

not_digit : (x y : ℕ) → x + y ≡ 1 → eqb x 1 ≡ not (eqb y 1)
not_digit zero (suc zero) h = refl
not_digit (suc zero) zero h = refl
not_digit zero zero h = absurd (omega arith)
not_digit zero (suc (suc y)) h = absurd (omega arith)
not_digit (suc (suc x)) y h = absurd (omega arith)
not_digit (suc zero) (suc y) h = absurd (omega arith)

xor_digit : (x y : ℕ) → x < 2 → y < 2 → (eqb (differ x y) 1 ≡ differs (eqb x 1) (eqb y 1)) × (differ x y < 2)
xor_digit zero zero h l = (refl, omega arith)
xor_digit zero (suc zero) h l = (refl, omega arith)
xor_digit (suc zero) zero h l = (refl, omega arith)
xor_digit (suc zero) (suc zero) h l = (refl, omega arith)
xor_digit zero (suc (suc y)) h l = absurd (omega arith)
xor_digit (suc zero) (suc (suc y)) h l = absurd (omega arith)
xor_digit (suc (suc x)) y h l = absurd (omega arith)

low_lt : (n : ℕ) → n % 2 < 2
low_lt n = mod-lt n (zero-lt-suc 1)

low_half : (n q r : ℕ) → n ≡ q * 2 + r → r < 2 → (n % 2 ≡ r) × (n / 2 ≡ q)
low_half n q r e h = (omega arith, omega arith)

-- ---- one bit of a word
pub bits_length : (k w : ℕ) → length (bits k w) ≡ k
unfolding bits
bits_length zero w = refl
bits_length (suc k) w = ap suc (bits_length k (w / 2))

pub bits_at : (s k w : ℕ) → s < k → get_or (bits k w) s false ≡ odd (w / 2 ^ s)
unfolding bits
bits_at s zero w h = absurd (omega arith)
bits_at zero (suc k) w h = ap odd (let e : w ≡ w / 1 = omega arith in e)
bits_at (suc s) (suc k) w h =
    bits_at s k (w / 2) (le_of_suc-le-suc h)
    ∙ ap odd (shr-shr w 1 s ∙ (let e : 1 + s ≡ suc s = omega arith in ap (λ (x : ℕ). w / 2 ^ x) e))

-- no bit of 0 is set
pub none_at : (k s : ℕ) → get_or (bits k 0) s false ≡ false
unfolding bits
none_at zero s = refl
none_at (suc k) zero = refl
none_at (suc k) (suc s) = none_at k s

-- ---- two words, bit by bit
and_half : (a b : ℕ) → (bit_and a b % 2 ≡ min (a % 2) (b % 2)) × (bit_and a b / 2 ≡ bit_and (a / 2) (b / 2))
and_half a b =
    low_half (bit_and a b) (bit_and (a / 2) (b / 2)) (min (a % 2) (b % 2)) (and_step a b)
    (min_digit (a % 2) (b % 2) (low_lt a) (low_lt b)).1

or_half : (a b : ℕ) → (bit_or a b % 2 ≡ max (a % 2) (b % 2)) × (bit_or a b / 2 ≡ bit_or (a / 2) (b / 2))
or_half a b =
    low_half (bit_or a b) (bit_or (a / 2) (b / 2)) (max (a % 2) (b % 2)) (or_step a b)
    (max_digit (a % 2) (b % 2) (low_lt a) (low_lt b)).1

xor_half : (a b : ℕ) → (bit_xor a b % 2 ≡ differ (a % 2) (b % 2)) × (bit_xor a b / 2 ≡ bit_xor (a / 2) (b / 2))
xor_half a b =
    low_half (bit_xor a b) (bit_xor (a / 2) (b / 2)) (differ (a % 2) (b % 2)) (xor_step a b)
    (xor_digit (a % 2) (b % 2) (low_lt a) (low_lt b)).1

and_odd : (a b : ℕ) → odd (bit_and a b) ≡ (odd a && odd b)
and_odd a b = ap (λ (x : ℕ). eqb x 1) (and_half a b).0 ∙ (min_digit (a % 2) (b % 2) (low_lt a) (low_lt b)).0

or_odd : (a b : ℕ) → odd (bit_or a b) ≡ (odd a || odd b)
or_odd a b = ap (λ (x : ℕ). eqb x 1) (or_half a b).0 ∙ (max_digit (a % 2) (b % 2) (low_lt a) (low_lt b)).0

pub and_at :
    (k a b s : ℕ) → get_or (bits k (bit_and a b)) s false ≡ (get_or (bits k a) s false && get_or (bits k b) s false)
unfolding bits
and_at zero a b s = refl
and_at (suc k) a b zero = and_odd a b
and_at (suc k) a b (suc s) =
    ap (λ (x : ℕ). get_or (bits k x) s false) (and_half a b).1 ∙ and_at k (a / 2) (b / 2) s

or_at :
    (k a b s : ℕ) → get_or (bits k (bit_or a b)) s false ≡ (get_or (bits k a) s false || get_or (bits k b) s false)
unfolding bits
or_at zero a b s = refl
or_at (suc k) a b zero = or_odd a b
or_at (suc k) a b (suc s) =
    ap (λ (x : ℕ). get_or (bits k x) s false) (or_half a b).1 ∙ or_at k (a / 2) (b / 2) s

pub xor_at :
    (k a b s : ℕ) → get_or (bits k (bit_xor a b)) s false ≡ differs (get_or (bits k a) s false) (get_or (bits k b) s false)
unfolding bits
xor_at zero a b s = refl
xor_at (suc k) a b zero =
    ap (λ (x : ℕ). eqb x 1) (xor_half a b).0 ∙ (xor_digit (a % 2) (b % 2) (low_lt a) (low_lt b)).0
xor_at (suc k) a b (suc s) =
    ap (λ (x : ℕ). get_or (bits k x) s false) (xor_half a b).1 ∙ xor_at k (a / 2) (b / 2) s

-- in a and not in b
pub except_at :
    (k a b s : ℕ) →
    b < 2 ^ k →
    get_or (bits k (bit_and a (2 ^ k - 1 - b))) s false ≡ (get_or (bits k a) s false && not (get_or (bits k b) s false))
unfolding bits
except_at zero a b s h = refl
except_at (suc k) a b zero h =
    let p = pow-suc 2 k in
    and_odd a (2 ^ suc k - 1 - b)
    ∙ ap (λ (x : Bool). odd a && x) (not_digit ((2 ^ suc k - 1 - b) % 2) (b % 2) (omega arith))
except_at (suc k) a b (suc s) h =
    let p = pow-suc 2 k in
    let e : (2 ^ suc k - 1 - b) / 2 ≡ 2 ^ k - 1 - b / 2 = omega arith in
    ap (λ (x : ℕ). get_or (bits k x) s false) ((and_half a (2 ^ suc k - 1 - b)).1 ∙ ap (bit_and (a / 2)) e)
    ∙ except_at k (a / 2) (b / 2) s (omega arith)

-- ---- one bit set or clear
pow_half : (s : ℕ) → (2 ^ suc s) / 2 ≡ 2 ^ s
pow_half s = let p = pow-suc 2 s in omega arith

pow_even : (s : ℕ) → odd (2 ^ suc s) ≡ false
pow_even s = let p = pow-suc 2 s in ne_eqb ((2 ^ suc s) % 2) 1 (λ e. omega arith)

single_here : (s k : ℕ) → s < k → get_or (bits k (2 ^ s)) s false ≡ true
unfolding bits
single_here s zero h = absurd (not-suc-le-zero h)
single_here zero (suc k) h = refl
single_here (suc s) (suc k) h =
    ap (λ (x : ℕ). get_or (bits k x) s false) (pow_half s) ∙ single_here s k (le_of_suc-le-suc h)

single_other : (s k j : ℕ) → (j ≡ s → ⊥) → get_or (bits k (2 ^ s)) j false ≡ false
unfolding bits
single_other s zero j n = refl
single_other zero (suc k) zero n = absurd (n refl)
single_other zero (suc k) (suc j) n = none_at k j
single_other (suc s) (suc k) zero n = pow_even s
single_other (suc s) (suc k) (suc j) n =
    ap (λ (x : ℕ). get_or (bits k x) j false) (pow_half s) ∙ single_other s k j (λ e. n (ap suc e))

-- a list that has b at s, and m elsewhere
is_set :
    (l m : List Bool) (s : ℕ) (b : Bool) →
    length l ≡ length m →
    s < length m →
    get_or l s false ≡ b →
    ((j : ℕ) → (j ≡ s → ⊥) → get_or l j false ≡ get_or m j false) →
    l ≡ set m s b
is_set l m s b e h here other =
    ext_get_or false l (set m s b) (e ∙ sym (length-set m s b))
    (λ j lt.
    by_order (get_or l j false ≡ get_or (set m s b) j false) j s
    (λ k. other j (λ z. omega arith) ∙ sym (get_or-set_other m s j b false (λ z. omega arith)))
    (λ k. by_order (get_or l j false ≡ get_or (set m s b) j false) s j
    (λ q. other j (λ z. omega arith) ∙ sym (get_or-set_other m s j b false (λ z. omega arith)))
    (λ q. let z : j ≡ s = omega arith in rw z (here ∙ sym (get_or-set_same m s b false h)))))

or_true : (x : Bool) → (x || true) ≡ true
or_true true = refl
or_true false = refl

or_false : (x : Bool) → (x || false) ≡ x
or_false true = refl
or_false false = refl

pub bits_put : (k w s : ℕ) → s < k → bits k (bit_or w (2 ^ s)) ≡ set (bits k w) s true
bits_put k w s h =
    is_set (bits k (bit_or w (2 ^ s))) (bits k w) s true
    (bits_length k (bit_or w (2 ^ s)) ∙ sym (bits_length k w))
    (let e = bits_length k w in omega arith)
    (or_at k w (2 ^ s) s ∙ ap (λ (x : Bool). get_or (bits k w) s false || x) (single_here s k h) ∙ or_true (get_or (bits k w) s false))
    (λ j n.
    or_at k w (2 ^ s) j ∙ ap (λ (x : Bool). get_or (bits k w) j false || x) (single_other s k j n) ∙ or_false (get_or (bits k w) j false))

pub bits_drop : (k w s : ℕ) → s < k → bits k (bit_and w (2 ^ k - 1 - 2 ^ s)) ≡ set (bits k w) s false
bits_drop k w s h =
    let l : 2 ^ s < 2 ^ k = pow-lt h in
    is_set (bits k (bit_and w (2 ^ k - 1 - 2 ^ s))) (bits k w) s false
    (bits_length k (bit_and w (2 ^ k - 1 - 2 ^ s)) ∙ sym (bits_length k w))
    (let e = bits_length k w in omega arith)
    (except_at k w (2 ^ s) s l
    ∙ ap (λ (x : Bool). get_or (bits k w) s false && not x) (single_here s k h)
    ∙ and-false (get_or (bits k w) s false))
    (λ j n.
    except_at k w (2 ^ s) j l
    ∙ ap (λ (x : Bool). get_or (bits k w) j false && not x) (single_other s k j n)
    ∙ and-true (get_or (bits k w) j false))

-- the two ends of `with_bit`
pub word_put :
    (k w s r : ℕ) (b : Bool) → s < k → r ≡ 2 ^ s → b ≡ true → bits k (bit_or w r) ≡ set (bits k w) s b
word_put k w s r b h e t = rw (e, t) (bits_put k w s h)

pub word_drop :
    (k w s r : ℕ) (b : Bool) → s < k → r ≡ 2 ^ s → b ≡ false → bits k (bit_and w (2 ^ k - 1 - r)) ≡ set (bits k w) s b
word_drop k w s r b h e t = rw (e, t) (bits_drop k w s h)

-- ---- a word made from below: the bit s of a word below 2 ^ s
unit_digit : (b : Bool) → odd (unit b) ≡ b
unit_digit true = refl
unit_digit false = refl

pub add_lt : (w s : ℕ) (b : Bool) → w < 2 ^ s → w + unit b * 2 ^ s < 2 ^ (s + 1)
add_lt w s true h = let p = pow-suc 2 s in rw add-one (omega arith)
add_lt w s false h = let p = pow-suc 2 s in rw add-one (omega arith)

add_half : (w s : ℕ) (b : Bool) → (w + unit b * 2 ^ suc s) / 2 ≡ w / 2 + unit b * 2 ^ s
add_half w s true = let p = pow-suc 2 s in omega arith
add_half w s false = omega arith

add_low : (w s : ℕ) (b : Bool) → (w + unit b * 2 ^ suc s) % 2 ≡ w % 2
add_low w s true = let p = pow-suc 2 s in omega arith
add_low w s false = omega arith

add_first : (w : ℕ) (b : Bool) → w < 1 → w + unit b * 1 ≡ unit b
add_first w true h = omega arith
add_first w false h = omega arith

half_unit : (b : Bool) → unit b / 2 ≡ 0
half_unit true = refl
half_unit false = refl

pub add_bit : (s k w : ℕ) (b : Bool) → s < k → w < 2 ^ s → bits k (w + unit b * 2 ^ s) ≡ set (bits k w) s b
unfolding bits
add_bit s zero w b h l = absurd (not-suc-le-zero h)
add_bit zero (suc k) w b h l =
    let z : w ≡ 0 = omega arith in
    let e = add_first w b l in
    ap₂ (λ (x : Bool) (m : List Bool). x ∷ m)
    (ap odd e ∙ unit_digit b)
    (ap (λ (x : ℕ). bits k (x / 2)) e ∙ ap (bits k) (half_unit b ∙ sym (ap (λ (x : ℕ). x / 2) z)))
add_bit (suc s) (suc k) w b h l =
    let p = pow-suc 2 s in
    ap₂ (λ (x : Bool) (m : List Bool). x ∷ m)
    (ap (λ (x : ℕ). eqb x 1) (add_low w s b))
    (ap (bits k) (add_half w s b) ∙ add_bit s k (w / 2) b (le_of_suc-le-suc h) (omega arith))

-- ---- the count
pub count_first : (f : ℕ → Bool) (n : ℕ) → count (suc n) f ≡ one (f 0) + count n (λ s. f (suc s))
unfolding count
count_first f zero = omega arith
count_first f (suc n) = let h = count_first f n in omega arith

one_odd : (n : ℕ) → one (odd n) ≡ n % 2
one_odd n = ⊎_elim (λ e. rw e) (λ e. rw e) (digit n)

pub bits_ones : (k w : ℕ) → w < 2 ^ k → ones w ≡ count k (λ s. get_or (bits k w) s false)
unfolding bits count ones
bits_ones zero w h = let e : w ≡ 0 = omega arith in rw e
bits_ones (suc k) w h =
    let p = pow-suc 2 k in
    ones_step w
    ∙ ap₂ (λ (x y : ℕ). x + y) (sym (one_odd w)) (bits_ones k (w / 2) (omega arith))
    ∙ sym (count_first (λ s. get_or (odd w ∷ bits k (w / 2)) s false) k)

-- ---- the lowest bit, and the word without it
pub bits_lowest : (k w : ℕ) → count_trailing_zeros k w ≡ lowest (bits k w)
unfolding bits lowest count_trailing_zeros
bits_lowest zero w = refl
bits_lowest (suc k) w = ⊎_elim (λ e. rw e (ap suc (bits_lowest k (w / 2)))) (λ e. rw e) (digit w)

-- an odd word w loses its first bit in w & (w - 1), and an even one has the loss in its half
odd_less : (w : ℕ) → w % 2 ≡ 1 → (bit_and w (w - 1) % 2 ≡ 0) × (bit_and w (w - 1) / 2 ≡ w / 2)
odd_less w e =
    let h = and_half w (w - 1) in
    let a : (w - 1) / 2 ≡ w / 2 = omega arith in
    let z : (w - 1) % 2 ≡ 0 = omega arith in
    (h.0 ∙ rw (z, min-zero (w % 2)), h.1 ∙ ap (bit_and (w / 2)) a ∙ and_self (w / 2))

even_less :
    (w : ℕ) → w % 2 ≡ 0 → 0 < w → (bit_and w (w - 1) % 2 ≡ 0) × (bit_and w (w - 1) / 2 ≡ bit_and (w / 2) (w / 2 - 1))
even_less w e p =
    let h = and_half w (w - 1) in
    let a : (w - 1) / 2 ≡ w / 2 - 1 = omega arith in
    (h.0 ∙ rw (e, zero-min ((w - 1) % 2)), h.1 ∙ ap (bit_and (w / 2)) a)

pub bits_less : (k w : ℕ) → 0 < w → w < 2 ^ k → bits k (bit_and w (w - 1)) ≡ set (bits k w) (lowest (bits k w)) false
unfolding bits lowest
bits_less zero w p h = absurd (let z : w < 1 = h in omega arith)
bits_less (suc k) w p h =
    let q = pow-suc 2 k in
    ⊎_elim
    (λ e.
    let d = even_less w e p in
    rw (e, d.0, d.1) (ap (λ (m : List Bool). false ∷ m) (bits_less k (w / 2) (omega arith) (omega arith))))
    (λ e. let d = odd_less w e in rw (e, d.0, d.1))
    (digit w)

-- a word is not 0 exactly if it has a lowest bit
pub lowest_lt : (k w : ℕ) → 0 < w → w < 2 ^ k → lowest (bits k w) < k
unfolding bits lowest
lowest_lt zero w p h = absurd (let z : w < 1 = h in omega arith)
lowest_lt (suc k) w p h =
    let q = pow-suc 2 k in
    ⊎_elim
    (λ e. rw e (let l = lowest_lt k (w / 2) (omega arith) (omega arith) in omega arith))
    (λ e. rw e (omega arith))
    (digit w)

pub lowest_none : (k : ℕ) → lowest (bits k 0) ≡ k
unfolding bits lowest
lowest_none zero = refl
lowest_none (suc k) = ap suc (lowest_none k)

-- ---- the two ends of `flag`
pub flag_in : (b : Bool) (s r : ℕ) → b ≡ true → r ≡ 2 ^ s → r ≡ unit b * 2 ^ s
flag_in b s r t e = rw t (e ∙ sym (one-mul (2 ^ s)))

pub flag_out : (b : Bool) (s : ℕ) → b ≡ false → 0 ≡ unit b * 2 ^ s
flag_out b s t = rw t (sym (zero-mul (2 ^ s)))
