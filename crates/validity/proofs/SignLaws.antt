-- Codes of numbers between their limits have their fields' signs and small magnitudes: so they can stand as magnitudes in a table.
-- Assumes nothing.
use Prim.Native.Nat.{ℕ, zero, suc, ◌+◌, ◌/◌, ◌<◌, ◌≤◌}
use mathlib.Core.Path.{◌≡◌, refl, sym, ◌∙◌, subst}
use mathlib.Core.Bool.{Bool, true, false, cond, ◌&&◌}
use mathlib.Core.List.{List, map}
use native.Mathlib.Omega.{arith}
use lib.Dec.{leb}
use lib.ListN.{length, get_or}
use lib.IntN.{ℤ, pos, neg_ℤ, nat_abs}
use lib.Signed.{le_z}
use borrow.Author.Tests.{lt-ltb, le-ltb}
use Rattle.index.specs.Index.{every}
use Rattle.index.proofs.Index.{every_at}
use Rattle.index.proofs.Flags.{by_test, by_order}
use Rattle.index.proofs.Lists.{Built, built_done}
use Rattle.varint.specs.Codes.{code_of, number_of, magnitude}
use Rattle.records.specs.Records.{State, code_in, param_count}
use Rattle.limits.specs.Limits.{field_count, limits, limit_at, field_of, at, in_limits}
use Rattle.limits.proofs.LimitLaws.{yes, sides, gain_is, loss_is}
use Rattle.limits.proofs.FieldLaws.{Within, code_at, most_of}
use Rattle.params.specs.Check.{accepted_codes}
use Rattle.params.proofs.CheckLaws.{codes_pass}
use Rattle.layout.specs.View.{is_below, below, code_for, state_of, CodesFit}
use Rattle.layout.proofs.StateLaws.{sized_of}

-- the fields that a table holds below 0 are those that the limits say, and no limit is above 10^9
sign_test : ℕ → Bool
sign_test f = cond (is_below f) (le_z (limit_at f).high (pos 0)) (le_z (pos 0) (limit_at f).low)

size_test : ℕ → Bool
size_test f = leb (nat_abs (limit_at f).low) 1000000000 && leb (nat_abs (limit_at f).high) 1000000000

signs : every field_count sign_test ≡ true
unfolding every sign_test is_below limit_at limits
signs = refl

sizes : every field_count size_test ≡ true
unfolding every size_test limit_at limits
sizes = refl

field_lt : (i : ℕ) → i < param_count → field_of i < field_count
field_lt i h =
    by_order (field_of i < field_count) i 19
    (λ l. rw (lt-ltb i 19 l) (omega arith))
    (λ l. rw (le-ltb i 19 l) (omega arith))

gain_fit : (n : ℕ) → code_for false ((code_of (pos n) + 1) / 2) ≡ code_of (pos n)
unfolding code_for
gain_fit n = omega arith

loss_fit : (n : ℕ) → code_for true ((code_of (neg_ℤ (pos n)) + 1) / 2) ≡ code_of (neg_ℤ (pos n))
unfolding code_for
loss_fit zero = refl
loss_fit (suc n) = omega arith

module _ (codes : List ℕ) (ok : Within codes) (i : ℕ) (h : i < param_count) where
  pub size_small : magnitude (get_or codes i 0) ≤ 1000000000
  unfolding size_test
  size_small = most_of codes ok i h (field_of i) refl 1000000000
      (yes (size_test (field_of i)) (every_at size_test field_count (field_of i) sizes (field_lt i h)))

  abbrev x : ℤ
  x = at (map number_of codes) i

  fit : code_for (below i) ((code_of x + 1) / 2) ≡ code_of x
  unfolding sign_test
  fit =
      let b = sides (map number_of codes) i (every_at (in_limits (map number_of codes)) param_count i ok h) in
      let t = every_at sign_test field_count (field_of i) signs (field_lt i h) in
      by_test (code_for (below i) ((code_of x + 1) / 2) ≡ code_of x) (is_below (field_of i))
      (λ e.
      let l : le_z (limit_at (field_of i)).high (pos 0) ≡ true = sym (rw e) ∙ t in
      let z = loss_is x (limit_at (field_of i)).high (yes _ l) b.1 in
      rw e (subst (λ (y : ℤ). code_for true ((code_of y + 1) / 2) ≡ code_of y) z (loss_fit (nat_abs x))))
      (λ e.
      let l : le_z (pos 0) (limit_at (field_of i)).low ≡ true = sym (rw e) ∙ t in
      let z = gain_is (limit_at (field_of i)).low x (yes _ l) b.0 in
      rw e (subst (λ (y : ℤ). code_for false ((code_of y + 1) / 2) ≡ code_of y) z (gain_fit (nat_abs x))))

  pub sign_fit : code_for (below i) ((get_or codes i 0 + 1) / 2) ≡ get_or codes i 0
  sign_fit = subst (λ (v : ℕ). code_for (below i) ((v + 1) / 2) ≡ v) (sym (code_at codes i)) fit

pub codes_fit : (codes : List ℕ) → length codes ≡ param_count → Within codes → CodesFit codes
codes_fit codes z ok = record { size = z; each = λ i h. sign_fit codes ok i h }

-- ---- the ends of `params_ok`

pub size_fails :
    (st : State) (i m : ℕ) → i < param_count → m ≡ magnitude (code_in st i) → 1000000000 < m → false
    ≡ accepted_codes st.setup.edition st.codes
unfolding code_in
size_fails st i m h e l =
    by_test (false ≡ accepted_codes st.setup.edition st.codes) (accepted_codes st.setup.edition st.codes)
    (λ t.
    let s = size_small st.codes (codes_pass st.setup.edition st.codes t).0 i h in
    absurd (omega arith))
    (λ t. sym t)

pub codes_built :
    (c : List ℕ) (codes : List ℕ) (i : ℕ) → param_count ≤ i → Built 0 (code_in (state_of c)) param_count i codes → codes ≡ (state_of c).codes
unfolding code_in
codes_built c codes i h b =
    built_done 0 (code_in (state_of c)) param_count i codes (state_of c).codes h b (sized_of c).codes (λ k l. refl)
