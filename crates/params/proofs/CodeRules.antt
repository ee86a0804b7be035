-- The joint rules, of codes: two codes of one sign stand to each other as the numbers' magnitudes do.
-- Assumes nothing.
use Rattle.index.proofs.Kit.{ℕ, ◌+◌, ◌*◌, ◌<◌, ◌≤◌, ◌≡◌, refl, sym, ap, ◌∙◌, Bool, arith}
use Rattle.index.specs.Index.{every}
use Prim.Native.Nat.{suc}
use mathlib.Core.Path.{ap₂}
use mathlib.Core.List.{List, [], ◌∷◌, map}
use lib.Dec.{T, leb, ltb, lit<}
use lib.ListN.{get_or}
use lib.IntN.{ℤ, pos, negsuc, ◌+ℤ◌, ◌*ℤ◌}
use lib.Signed.{le_z, lt_z}
use Rattle.index.proofs.Flags.{leb_same}
use Rattle.varint.specs.Codes.{code_of, number_of}
use Rattle.records.specs.Records.{topic_count, param_count}
use Rattle.limits.specs.Limits.{limits, limit_at, field_of, place, at}
use Rattle.limits.proofs.LimitLaws.{topic_field}
use Rattle.params.specs.declared.Edition.{Edition}
use Rattle.params.specs.declared.Edition.TheVariants.{First, Second}
use Rattle.params.specs.Joint.{cap_rule, score_rule, joint, rule}
use Rattle.limits.proofs.FieldLaws.{Within, code_at, gain_at, loss_at, most_of}

-- ---- numbers of one sign, by their codes
abbrev Gain : ℤ → Type 0
Gain x = T (le_z (pos 0) x)

abbrev Loss : ℤ → Type 0
Loss x = T (le_z x (negsuc 0))

gain_le : (x y : ℤ) → Gain x → Gain y → leb (code_of x) (code_of y) ≡ le_z x y
gain_le (pos a) (pos b) p q = leb_same (2 * a) (2 * b) a b (λ h. omega arith) (λ h. omega arith)
gain_le (negsuc a) y p q = absurd p
gain_le (pos a) (negsuc b) p q = absurd q

gain_lt : (x y : ℤ) → Gain x → Gain y → ltb (code_of x) (code_of y) ≡ lt_z x y
gain_lt (pos a) (pos b) p q = leb_same (suc (2 * a)) (2 * b) (suc a) b (λ h. omega arith) (λ h. omega arith)
gain_lt (negsuc a) y p q = absurd p
gain_lt (pos a) (negsuc b) p q = absurd q

gain_twice : (x y : ℤ) → Gain x → Gain y → leb (2 * code_of x) (code_of y) ≡ le_z (pos 2 *ℤ x) y
gain_twice (pos a) (pos b) p q = leb_same (2 * (2 * a)) (2 * b) (2 * a) b (λ h. omega arith) (λ h. omega arith)
gain_twice (negsuc a) y p q = absurd p
gain_twice (pos a) (negsuc b) p q = absurd q

gain_sum : (x y z : ℤ) → Gain x → Gain y → Gain z → leb (code_of x + code_of y) (code_of z) ≡ le_z (x +ℤ y) z
gain_sum (pos a) (pos b) (pos c) p q r = leb_same (2 * a + 2 * b) (2 * c) (a + b) c (λ h. omega arith) (λ h. omega arith)
gain_sum (negsuc a) y z p q r = absurd p
gain_sum (pos a) (negsuc b) z p q r = absurd q
gain_sum (pos a) (pos b) (negsuc c) p q r = absurd r

loss_le : (x y : ℤ) → Loss x → Loss y → leb (code_of y) (code_of x) ≡ le_z x y
loss_le (negsuc a) (negsuc b) p q = leb_same (2 * b + 1) (2 * a + 1) b a (λ h. omega arith) (λ h. omega arith)
loss_le (pos a) y p q = absurd p
loss_le (negsuc a) (pos b) p q = absurd q

loss_lt : (x y : ℤ) → Loss x → Loss y → ltb (code_of y) (code_of x) ≡ lt_z x y
loss_lt (negsuc a) (negsuc b) p q = leb_same (suc (2 * b + 1)) (2 * a + 1) (suc b) a (λ h. omega arith) (λ h. omega arith)
loss_lt (pos a) y p q = absurd p
loss_lt (negsuc a) (pos b) p q = absurd q

-- ---- each rule
module _ (codes : List ℕ) (ok : Within codes) where
  gain : (i : ℕ) → i < param_count → T (le_z (pos 0) (limit_at (field_of i)).low) → Gain (at (map number_of codes) i)
  gain i h t = gain_at codes ok i h (field_of i) refl t

  loss : (i : ℕ) → i < param_count → T (le_z (limit_at (field_of i)).high (negsuc 0)) → Loss (at (map number_of codes) i)
  loss i h t = loss_at codes ok i h (field_of i) refl t

  le_of :
      (i j : ℕ) → Gain (at (map number_of codes) i) → Gain (at (map number_of codes) j) →
      leb (get_or codes i 0) (get_or codes j 0) ≡ le_z (at (map number_of codes) i) (at (map number_of codes) j)
  le_of i j p q = ap₂ leb (code_at codes i) (code_at codes j) ∙ gain_le (at (map number_of codes) i) (at (map number_of codes) j) p q

  -- D_lo ≤ D
  pub le_lo : (e : Edition) → leb (get_or codes 0 0) (get_or codes 1 0) ≡ rule (map number_of codes) e 0
  unfolding rule joint limit_at limits
  le_lo e = le_of 0 1 (gain 0 (lit< tt) tt) (gain 1 (lit< tt) tt)

  -- D ≤ D_hi
  pub le_hi : (e : Edition) → leb (get_or codes 1 0) (get_or codes 2 0) ≡ rule (map number_of codes) e 1
  unfolding rule joint limit_at limits
  le_hi e = le_of 1 2 (gain 1 (lit< tt) tt) (gain 2 (lit< tt) tt)

  -- D_out < D_lo
  pub lt_lo : (e : Edition) → ltb (get_or codes 3 0) (get_or codes 0 0) ≡ rule (map number_of codes) e 2
  unfolding rule joint limit_at limits
  lt_lo e =
      ap₂ ltb (code_at codes 3) (code_at codes 0)
      ∙ gain_lt (at (map number_of codes) 3) (at (map number_of codes) 0) (gain 3 (lit< tt) tt) (gain 0 (lit< tt) tt)

  -- 2·D_out ≤ D
  pub twice_out : (e : Edition) → leb (2 * get_or codes 3 0) (get_or codes 1 0) ≡ rule (map number_of codes) e 3
  unfolding rule joint limit_at limits
  twice_out e =
      ap₂ (λ (u v : ℕ). leb (2 * u) v) (code_at codes 3) (code_at codes 1)
      ∙ gain_twice (at (map number_of codes) 3) (at (map number_of codes) 1) (gain 3 (lit< tt) tt) (gain 1 (lit< tt) tt)

  -- D_score + D_out ≤ D, of the first edition
  pub sum_out : leb (get_or codes 4 0 + get_or codes 3 0) (get_or codes 1 0) ≡ score_rule (map number_of codes) First
  unfolding limit_at limits
  sum_out =
      ap₂ leb (ap₂ (λ (u v : ℕ). u + v) (code_at codes 4) (code_at codes 3)) (code_at codes 1)
      ∙ gain_sum (at (map number_of codes) 4) (at (map number_of codes) 3) (at (map number_of codes) 1) (gain 4 (lit< tt) tt)
      (gain 3 (lit< tt) tt) (gain 1 (lit< tt) tt)

  -- D_score ≤ D, of the second
  pub le_score : leb (get_or codes 4 0) (get_or codes 1 0) ≡ score_rule (map number_of codes) Second
  unfolding limit_at limits
  le_score = le_of 4 1 (gain 4 (lit< tt) tt) (gain 1 (lit< tt) tt)

  pub score_is : (e : Edition) → score_rule (map number_of codes) e ≡ rule (map number_of codes) e 4
  unfolding rule joint
  score_is e = refl

  -- publish ≤ gossip, both negative
  pub le_gossip : (e : Edition) → leb (get_or codes 10 0) (get_or codes 11 0) ≡ rule (map number_of codes) e 5
  unfolding rule joint limit_at limits
  le_gossip e =
      ap₂ leb (code_at codes 10) (code_at codes 11)
      ∙ loss_le (at (map number_of codes) 11) (at (map number_of codes) 10) (loss 11 (lit< tt) tt) (loss 10 (lit< tt) tt)

  -- graylist < publish, both negative
  pub lt_publish : (e : Edition) → ltb (get_or codes 11 0) (get_or codes 9 0) ≡ rule (map number_of codes) e 6
  unfolding rule joint limit_at limits
  lt_publish e =
      ap₂ ltb (code_at codes 11) (code_at codes 9)
      ∙ loss_lt (at (map number_of codes) 9) (at (map number_of codes) 11) (loss 9 (lit< tt) tt) (loss 11 (lit< tt) tt)

  -- in topic k, P3 cap ≥ P3 threshold
  pub cap_of : (k : ℕ) → k < topic_count → leb (get_or codes (place k 10) 0) (get_or codes (place k 9) 0) ≡ cap_rule (map number_of codes) k
  unfolding cap_rule limit_at limits
  cap_of k h =
      le_of (place k 10) (place k 9)
      (gain_at codes ok (place k 10) (omega arith) 29 (topic_field k 10 (lit< tt)) tt)
      (gain_at codes ok (place k 9) (omega arith) 28 (topic_field k 9 (lit< tt)) tt)

  pub caps_are : (e : Edition) → every topic_count (cap_rule (map number_of codes)) ≡ rule (map number_of codes) e 7
  unfolding rule joint
  caps_are e = refl

  -- all rules, in order
  pub rules_are :
      (e : Edition) (s c : Bool) → s ≡ score_rule (map number_of codes) e → c ≡ every topic_count (cap_rule (map number_of codes)) →
      leb (get_or codes 0 0) (get_or codes 1 0)
      ∷ leb (get_or codes 1 0) (get_or codes 2 0)
      ∷ ltb (get_or codes 3 0) (get_or codes 0 0)
      ∷ leb (2 * get_or codes 3 0) (get_or codes 1 0)
      ∷ s
      ∷ leb (get_or codes 10 0) (get_or codes 11 0)
      ∷ ltb (get_or codes 11 0) (get_or codes 9 0)
      ∷ c
      ∷ []
      ≡ joint (map number_of codes) e
  unfolding rule joint
  rules_are e s c p q i =
      le_lo e i ∷ le_hi e i ∷ lt_lo e i ∷ twice_out e i ∷ p i ∷ le_gossip e i ∷ lt_publish e i ∷ q i ∷ []

  -- the sums of `rules` are small
  pub out_small : get_or codes 3 0 ≤ 48
  unfolding limit_at limits
  out_small = omega (arith, most_of codes ok 3 (lit< tt) 3 refl 24 tt)

  pub score_small : get_or codes 4 0 ≤ 96
  unfolding limit_at limits
  score_small = omega (arith, most_of codes ok 4 (lit< tt) 4 refl 48 tt)

-- ---- the ends of `score_keeps`
pub score_in : {e d : Edition} (xs : List ℤ) → e ≡ d → (b : Bool) → b ≡ score_rule xs d → b ≡ score_rule xs e
score_in xs q b f = f ∙ ap (score_rule xs) (sym q)
