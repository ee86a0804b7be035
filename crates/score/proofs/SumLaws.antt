-- What balances are worth: after the cap, the parts of P5, P6 and P7, the whole score; and how the code compares and returns them.
-- Assumes nothing.
use Prim.Native.Nat.{ℕ, suc, ◌+◌, ◌-◌, ◌*◌, ◌/◌, ◌%◌, ◌<◌, ◌≤◌, min}
use mathlib.Core.Path.{◌≡◌, refl, sym, ap, ap₂, ◌∙◌}
use mathlib.Core.Bool.{cond}
use native.Mathlib.Omega.{arith}
use native.Mathlib.Nat.{add-zero, zero-add, mul-zero, mul_comm, mul_assoc, min-eq_left, min-eq_right}
use borrow.Author.Tests.{leb-true, leb-false, eqb-true, eqb-false}
use lib.Dec.{eqb, leb}
use lib.IntN.{ℤ, pos, neg_ℤ, nat_abs, sub_ℕ, ◌+ℤ◌, ◌*ℤ◌}
use lib.Signed.{le_z, lt_z}
use Rattle.index.proofs.Flags.{by_test}
use Rattle.varint.specs.Codes.{code_of, number_of}
use Rattle.score.specs.declared.Balance.{Balance}
use Rattle.score.specs.declared.ScoreParams.{ScoreParams}
use Rattle.score.specs.declared.Sharers.{Sharers}
use Rattle.score.specs.declared.Why.{Why}
use Rattle.score.specs.Ranges.{score_most, BalanceIn}
use Rattle.score.specs.Parts.{square, crowd_of}
use Rattle.score.specs.Formula.{min_z, bounded, why_of}
use Rattle.score.specs.Sums.{worth, capped_of, p5_of, p6_of, p7_of, parts_of, total_of, offset_of, negative_of, below_of}
use Rattle.score.proofs.Differences.{diff_lt, diff_ge, diff_pos, diff_neg, diff_add, diff_same, diff_times, diff_le, diff_lt_z}
use Rattle.score.proofs.Differences.{neg_times, offset_le, diff_size}

-- six numbers that are the same make the same
abbrev pub why_from : ℤ → ℤ → ℤ → ℤ → ℤ → ℤ → Why
why_from a b c d e f = record { topics = a; capped = b; p5 = c; p6 = d; p7 = e; score = f }

pub same_why :
    {a b c d e f a' b' c' d' e' f' : ℤ} →
    a ≡ a' →
    b ≡ b' →
    c ≡ c' →
    d ≡ d' →
    e ≡ e' →
    f ≡ f' →
    why_from a b c d e f ≡ why_from a' b' c' d' e' f'
same_why p q r s t u = cc

-- the code of a score, by its sign
pub lost_code : (b : Balance) → b.gain < b.loss → (b.loss - b.gain) * 2 - 1 ≡ code_of (worth b)
lost_code b h = rw (diff_lt b.gain b.loss h) (omega arith)

pub gained_code : (b : Balance) → b.loss ≤ b.gain → (b.gain - b.loss) * 2 ≡ code_of (worth b)
gained_code b h = rw (diff_ge b.gain b.loss h) (omega arith)

-- the cap bounds from above alone
least_is : (c : ℕ) (b : Balance) → min_z (worth b) (pos c) ≡ sub_ℕ (min b.gain (c + b.loss)) b.loss
least_is c b =
    rw (diff_pos c, diff_le b.gain b.loss c 0, add-zero b.gain)
    (by_test
    (cond (leb b.gain (c + b.loss)) (worth b) (sub_ℕ c 0) ≡ sub_ℕ (min b.gain (c + b.loss)) b.loss)
    (leb b.gain (c + b.loss))
    (λ t. rw (t, min-eq_left (leb-true b.gain (c + b.loss) t)))
    (λ t.
    let h : c + b.loss ≤ b.gain = omega (arith, leb-false b.gain (c + b.loss) t) in
    rw (t, min-eq_right h) (diff_same c 0 (c + b.loss) b.loss (omega arith))))

pub capped_is : (cap : ℕ) (b : Balance) → bounded cap (worth b) ≡ worth (capped_of cap b)
unfolding bounded capped_of
capped_is cap b =
    by_test
    (bounded cap (worth b) ≡ worth (capped_of cap b))
    (eqb cap 0)
    (λ t. rw t)
    (λ t. rw t (least_is (cap * 1000000) b))

-- a weight that takes away
pub loss_is : (w p k : ℕ) → neg_ℤ (pos w) *ℤ pos p *ℤ pos k ≡ sub_ℕ 0 (w * p * k)
loss_is w p k = rw (neg_times w p) (diff_times 0 (w * p) k ∙ ap₂ sub_ℕ (mul-zero k) (mul_comm k (w * p)))

-- P5, by its sign
half : (w k : ℕ) → k * (w * 1000) ≡ 1000 * (k * w)
half w k = sym (mul_assoc k w 1000) ∙ mul_comm (k * w) 1000

pub p5_is : (w code : ℕ) → pos w *ℤ number_of code *ℤ pos 1000 ≡ worth (p5_of w code)
unfolding p5_of
p5_is w code =
    by_test
    (pos w *ℤ number_of code *ℤ pos 1000 ≡ worth (p5_of w code))
    (eqb (code % 2) 1)
    (λ t.
    let odd : code % 2 ≡ 1 = eqb-true (code % 2) 1 t in
    let e : (code + 1) / 2 ≡ suc (code / 2) = omega arith in
    rw (t, e, diff_neg (w * suc (code / 2)), diff_times 0 (w * suc (code / 2)) 1000, half (suc (code / 2)) w) refl)
    (λ t.
    let even : code % 2 ≡ 1 → ⊥ = eqb-false (code % 2) 1 t in
    let e : (code + 1) / 2 ≡ code / 2 = omega (arith, even) in
    rw (t, e, half (code / 2) w, mul_comm (w * (code / 2)) 1000) (diff_pos (1000 * (w * (code / 2)))))

-- the whole score: 01's formula at the topics' total, P5, the surplus of each group and P7
pub total_is :
    (g : ScoreParams) (b : Balance) (code : ℕ) (sharers : Sharers) (p7 : ℕ) →
    (why_of
    g.cap
    (worth b)
    (pos g.w5)
    (number_of code)
    (neg_ℤ (pos g.w6))
    (crowd_of g.threshold sharers)
    (neg_ℤ (pos g.w7))
    p7
    ).score
    ≡ worth (total_of (parts_of g b code sharers p7))
unfolding why_of total_of parts_of
total_is g b code sharers p7 =
    ap₂
    (λ (x y : ℤ). x +ℤ y)
    (ap₂
    (λ (x y : ℤ). x +ℤ y)
    (ap₂ (λ (x y : ℤ). x +ℤ y) (capped_is g.cap b) (p5_is g.w5 code))
    (loss_is g.w6 (crowd_of g.threshold sharers) 1000000000))
    (loss_is g.w7 (square p7) 1000)
    ∙ add_four (capped_of g.cap b) (p5_of g.w5 code) (p6_of g.w6 g.threshold sharers) (p7_of g.w7 p7)
  where
    add_four :
        (a c : Balance) (m n : ℕ) →
        worth a +ℤ worth c +ℤ sub_ℕ 0 m +ℤ sub_ℕ 0 n ≡ sub_ℕ (a.gain + c.gain) (a.loss + c.loss + m + n)
    add_four a c m n =
        rw (
          diff_add a.gain a.loss c.gain c.loss,
          diff_add (a.gain + c.gain) (a.loss + c.loss) 0 m,
          diff_add (a.gain + c.gain + 0) (a.loss + c.loss + m) 0 n,
        )
        (diff_same
        (a.gain + c.gain + 0 + 0)
        (a.loss + c.loss + m + n)
        (a.gain + c.gain)
        (a.loss + c.loss + m + n)
        (omega arith))

-- "No score passes 2.6 × 10^18 either way."
pub score_size : (b : Balance) → BalanceIn b → nat_abs (worth b) ≤ score_most
score_size b h = diff_size b.gain b.loss score_most h.gain h.loss

-- an offset against a number of 10^-9 points that is not negative
module _ (b : Balance) (k : ℕ) (h : BalanceIn b) where
  up : score_most + k ≡ score_most + k - 0
  up = omega arith

  pub offset_from : leb (score_most + k) (offset_of b) ≡ le_z (pos k) (worth b)
  offset_from =
      rw (diff_pos k)
      (ap (λ (n : ℕ). leb n (offset_of b)) up
      ∙ offset_le score_most k 0 b.gain b.loss (omega arith) (omega arith))

pub negative_is : (b : Balance) → negative_of b ≡ lt_z (worth b) (pos 0)
negative_is b = rw (diff_pos 0, diff_lt_z b.gain b.loss 0 0, add-zero b.gain, zero-add b.loss)

pub below_is : (b : Balance) (n : ℕ) → below_of b n ≡ lt_z (worth b) (neg_ℤ (pos (n * 1000000)))
below_is b n = rw (diff_neg (n * 1000000), diff_lt_z b.gain b.loss 0 (n * 1000000), zero-add b.loss)
