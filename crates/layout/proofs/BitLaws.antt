-- Words by slot, four cells each: one bit is set, and no other.
-- Assumes nothing.
use Prim.Native.Nat.{ℕ, zero, suc, ◌+◌, ◌*◌, ◌-◌, ◌/◌, ◌%◌, ◌^◌, ◌≤◌, ◌<◌, min, max}
use mathlib.Core.Path.{◌≡◌, sym, ap, ◌∙◌}
use mathlib.Core.Logic.{◌≢◌}
use mathlib.Core.List.{List}
use native.Mathlib.Omega.{arith}
use native.Mathlib.Nat.{mod-lt, zero-lt-suc}
use lib.ListN.{length, get_or, set, length-set}
use lib.Seq.{get_or-set_same, get_or-set_other}
use lib.Bits.{bit_and, bit_or}
use lib.Pow.{pow-lt}
use borrow.Author.Tests.{eq-eqb, ne_eqb}
use Rattle.index.proofs.Flags.{by_order}
use Rattle.layout.specs.View.{place_count, bit_at, with_bit, set_bit}
use Rattle.layout.proofs.DigitLaws.{digit_le, and_digit, or_digit, not_digit, own_digit, other_digit}

-- two numbers are the same or not
pub by_same {ℓ} : (P : Type ℓ) (a b : ℕ) → (a ≡ b → P) → (a ≢ b → P) → P
by_same P a b f g =
    by_order P a b (λ l. g (λ e. omega arith)) (λ l.
    by_order P b a (λ m. g (λ e. omega arith)) (λ m. f (omega arith)))

-- ---- one word

min_none : (a b : ℕ) → a ≤ 1 → b ≡ 0 → min a b ≡ 0
min_none zero b l e = rw e
min_none (suc zero) b l e = rw e
min_none (suc (suc a)) b l e = absurd (omega arith)

min_all : (a b : ℕ) → a ≤ 1 → b ≡ 1 → min a b ≡ a
min_all zero b l e = rw e
min_all (suc zero) b l e = rw e
min_all (suc (suc a)) b l e = absurd (omega arith)

max_all : (a b : ℕ) → a ≤ 1 → b ≡ 1 → max a b ≡ 1
max_all zero b l e = rw e
max_all (suc zero) b l e = rw e
max_all (suc (suc a)) b l e = absurd (omega arith)

max_none : (a b : ℕ) → a ≤ 1 → b ≡ 0 → max a b ≡ a
max_none zero b l e = rw e
max_none (suc zero) b l e = rw e
max_none (suc (suc a)) b l e = absurd (omega arith)

hole : (s j : ℕ) → s < 64 → j < 64 → (2 ^ 64 - 1 - 2 ^ s) / 2 ^ j % 2 ≡ 1 - 2 ^ s / 2 ^ j % 2
hole s j h l = not_digit j 64 (2 ^ s) (pow-lt h) l

pub bit_same : (w s v : ℕ) → s < 64 → v ≤ 1 → with_bit w s v / 2 ^ s % 2 ≡ v
unfolding with_bit
bit_same w s zero h l =
    and_digit w (2 ^ 64 - 1 - 2 ^ s) s ∙ min_none (w / 2 ^ s % 2) _ (digit_le w s) (hole s s h h ∙ (let e = own_digit s in omega arith))
bit_same w s (suc zero) h l = or_digit w (2 ^ s) s ∙ max_all (w / 2 ^ s % 2) _ (digit_le w s) (own_digit s)
bit_same w s (suc (suc v)) h l = absurd (omega arith)

pub bit_other : (w s v j : ℕ) → s < 64 → v ≤ 1 → j < 64 → j ≢ s → with_bit w s v / 2 ^ j % 2 ≡ w / 2 ^ j % 2
unfolding with_bit
bit_other w s zero j h l b ne =
    and_digit w (2 ^ 64 - 1 - 2 ^ s) j
    ∙ min_all (w / 2 ^ j % 2) _ (digit_le w j) (hole s j h b ∙ (let e = other_digit s j ne in omega arith))
bit_other w s (suc zero) j h l b ne = or_digit w (2 ^ s) j ∙ max_none (w / 2 ^ j % 2) _ (digit_le w j) (other_digit s j ne)
bit_other w s (suc (suc v)) j h l b ne = absurd (omega arith)

-- ---- a word of four cells, from cell o on

low64 : (s : ℕ) → s % 64 < 64
low64 s = mod-lt s (zero-lt-suc 63)

pub length_bit : (c : List ℕ) (o s v : ℕ) → length (set_bit c o s v) ≡ length c
unfolding set_bit
length_bit c o s v = length-set c (o + s / 64) (with_bit (get_or c (o + s / 64) 0) (s % 64) v)

pub bit_cong : (c d : List ℕ) (o s : ℕ) → get_or d (o + s / 64) 0 ≡ get_or c (o + s / 64) 0 → bit_at d o s ≡ bit_at c o s
unfolding bit_at
bit_cong c d o s e = ap (λ w. w / 2 ^ (s % 64) % 2) e

-- THE LAW OF A BIT: it is what was stored
pub bit_put_same : (c : List ℕ) (o s v : ℕ) → o + s / 64 < length c → v ≤ 1 → bit_at (set_bit c o s v) o s ≡ v
unfolding bit_at set_bit
bit_put_same c o s v h l =
    ap (λ w. w / 2 ^ (s % 64) % 2) (get_or-set_same c (o + s / 64) (with_bit (get_or c (o + s / 64) 0) (s % 64) v) 0 h)
    ∙ bit_same (get_or c (o + s / 64) 0) (s % 64) v (low64 s) l

-- and no other bit of the word changes
pub bit_put_other :
    (c : List ℕ) (o s v j : ℕ) →
    o + s / 64 < length c →
    v ≤ 1 →
    j ≢ s →
    bit_at (set_bit c o s v) o j ≡ bit_at c o j
unfolding bit_at set_bit
bit_put_other c o s v j h l ne =
    let w = get_or c (o + s / 64) 0 in
    by_same (get_or (set c (o + s / 64) (with_bit w (s % 64) v)) (o + j / 64) 0 / 2 ^ (j % 64) % 2 ≡ get_or c (o + j / 64) 0 / 2 ^ (j % 64) % 2)
    (j / 64) (s / 64)
    (λ e.
    let z : (j % 64) ≢ (s % 64) = (λ y. ne (omega arith)) in
    ap (λ n. get_or (set c (o + s / 64) (with_bit w (s % 64) v)) (o + n) 0 / 2 ^ (j % 64) % 2) e
    ∙ ap (λ x. x / 2 ^ (j % 64) % 2) (get_or-set_same c (o + s / 64) (with_bit w (s % 64) v) 0 h)
    ∙ bit_other w (s % 64) v (j % 64) (low64 s) l (low64 j) z
    ∙ ap (λ n. get_or c (o + n) 0 / 2 ^ (j % 64) % 2) (sym e))
    (λ ne2. ap (λ x. x / 2 ^ (j % 64) % 2) (get_or-set_other c (o + s / 64) (o + j / 64) (with_bit w (s % 64) v) 0 (λ y. ne2 (omega arith))))

-- nor any cell outside
pub bit_put_cell : (c : List ℕ) (o s v x : ℕ) → x ≢ o + s / 64 → get_or (set_bit c o s v) x 0 ≡ get_or c x 0
unfolding set_bit
bit_put_cell c o s v x ne = get_or-set_other c (o + s / 64) x (with_bit (get_or c (o + s / 64) 0) (s % 64) v) 0 ne

-- words by topic from cell b on: place k is topic k % 8 of slot k / 8
pub place_put_other :
    (c : List ℕ) (b k v j : ℕ) →
    b + k % 8 * 4 + k / 8 / 64 < length c →
    v ≤ 1 →
    k < place_count →
    j < place_count →
    j ≢ k →
    bit_at (set_bit c (b + k % 8 * 4) (k / 8) v) (b + j % 8 * 4) (j / 8) ≡ bit_at c (b + j % 8 * 4) (j / 8)
place_put_other c b k v j h l bk bj ne =
    by_same (bit_at (set_bit c (b + k % 8 * 4) (k / 8) v) (b + j % 8 * 4) (j / 8) ≡ bit_at c (b + j % 8 * 4) (j / 8)) (j % 8) (k % 8)
    (λ e.
    let z : (j / 8) ≢ (k / 8) = (λ y. ne (omega arith)) in
    ap (λ n. bit_at (set_bit c (b + k % 8 * 4) (k / 8) v) (b + n * 4) (j / 8)) e
    ∙ bit_put_other c (b + k % 8 * 4) (k / 8) v (j / 8) h l z
    ∙ ap (λ n. bit_at c (b + n * 4) (j / 8)) (sym e))
    (λ n. bit_cong c (set_bit c (b + k % 8 * 4) (k / 8) v) (b + j % 8 * 4) (j / 8)
    (bit_put_cell c (b + k % 8 * 4) (k / 8) v (b + j % 8 * 4 + j / 8 / 64) (λ y. n (omega arith))))

-- ---- a store to one cell: every other cell stands
pub record One (c d : List ℕ) (x : ℕ) : Type 0 where
  pub len : length d ≡ length c
  pub rest : (y : ℕ) → y ≢ x → get_or d y 0 ≡ get_or c y 0

pub one_set : (c : List ℕ) (x v : ℕ) → One c (set c x v) x
one_set c x v = record { len = length-set c x v; rest = λ y n. get_or-set_other c x y v 0 n }

pub one_bit : (c : List ℕ) (o s v : ℕ) → One c (set_bit c o s v) (o + s / 64)
one_bit c o s v = record { len = length_bit c o s v; rest = λ y n. bit_put_cell c o s v y n }

-- ---- the two ends of `with_bit`
pub with_put : (w s v r : ℕ) → r ≡ 2 ^ s → v ≡ 1 → bit_or w r ≡ with_bit w s v
unfolding with_bit
with_put w s v r e t = rw (eq-eqb v 1 t, e)

pub with_drop : (w s v r : ℕ) → r ≡ 2 ^ s → v ≢ 1 → bit_and w (2 ^ 64 - 1 - r) ≡ with_bit w s v
unfolding with_bit
with_drop w s v r e t = rw (ne_eqb v 1 t, e)
