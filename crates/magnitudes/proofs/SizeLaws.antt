-- The check of the parameters by their magnitudes: a magnitude between those of its field's limits, with its field's sign, is a number
-- between the limits; and the joint rules compare numbers of one sign.
-- Assumes nothing.
use Rattle.std.proofs.Common.{Option, Some}
use Prim.Native.Nat.{ℕ, zero, suc, ◌+◌, ◌*◌, ◌-◌, ◌≤◌, ◌<◌}
use mathlib.Core.Path.{◌≡◌, refl, sym, ap, ◌∙◌}
use mathlib.Core.Bool.{Bool, true, false, cond, ◌&&◌}
use mathlib.Core.List.{List, map}
use native.Mathlib.Omega.{arith}
use native.Mathlib.Nat.{le_trans}
use lib.Dec.{leb, ltb}
use lib.ListN.{length, get_or}
use lib.IntN.{ℤ, pos, negsuc, neg_ℤ}
use lib.Signed.{le_z}
use Prim.{tt}
use borrow.Author.Tests.{le-leb, leb-true, lt-ltb, le-ltb, ltb-true, eq-eqb}
use Rattle.index.specs.Index.{every}
use Rattle.index.proofs.Index.{both, every_at, every_by}
use Rattle.index.proofs.Flags.{by_test, by_order}
use Rattle.varint.specs.Codes.{number_of, magnitude}
use Rattle.varint.proofs.CodeLaws.{number_code}
use Rattle.records.specs.Records.{State, code_in, param_count, topic_count}
use Rattle.limits.specs.Limits.{general_count, of_topic, field_count, place, limits, limit_at, field_of, lies, in_limits}
use Rattle.limits.proofs.LimitLaws.{general_field, topic_field}
use Rattle.limits.proofs.FieldLaws.{Within, code_in_lem, gain_code, loss_code, most_of}
use Rattle.limits.proofs.RowLaws.{fields_are}
use Rattle.params.specs.declared.Edition.{Edition}
use Rattle.params.specs.declared.Edition.TheVariants.{First, Second}
use Rattle.params.specs.Joint.{rule_count, cap_rule, score_rule, rule}
use Rattle.params.specs.Editions.{edition_of, coded}
use Rattle.params.specs.Check.{accepted_by, accepted_codes}
use Rattle.params.proofs.CheckLaws.{accepted_is, edition_known}
use Rattle.params.proofs.CodeRules.{le_lo, le_hi, lt_lo, twice_out, sum_out, le_score, score_is, le_gossip, lt_publish, cap_of, caps_are}
use Rattle.layout.specs.View.{is_below, below, code_for, state_of}
use Rattle.layout.proofs.StateLaws.{sized_of}
use Rattle.magnitudes.specs.Sizes.{least, most, size_in, Degrees, Thresholds}

pub never : {P : Type 0} → false ≡ true → P
never e = let z : ◌≡◌ {A = ℕ} 0 1 = cc in absurd (omega arith)

-- ---- magnitudes between those of the limits
gain_up : (l : ℤ) (a m : ℕ) → le_z l (pos a) ≡ true → a ≤ m → le_z l (pos m) ≡ true
gain_up (pos x) a m e h = le-leb x m (le_trans (leb-true x a e) h)
gain_up (negsuc x) a m e h = refl

gain_down : (l : ℤ) (a m : ℕ) → le_z (pos a) l ≡ true → m ≤ a → le_z (pos m) l ≡ true
gain_down (pos x) a m e h = le-leb m x (le_trans h (leb-true a x e))
gain_down (negsuc x) a m e h = never e

loss_up : (l : ℤ) (a m : ℕ) → le_z l (neg_ℤ (pos a)) ≡ true → m ≤ a → le_z l (neg_ℤ (pos m)) ≡ true
loss_up (pos x) zero zero e h = e
loss_up (pos x) zero (suc m) e h = absurd (omega arith)
loss_up (pos x) (suc a) m e h = never e
loss_up (negsuc x) a zero e h = refl
loss_up (negsuc x) zero (suc m) e h = absurd (omega arith)
loss_up (negsuc x) (suc a) (suc m) e h = le-leb m x (let k = leb-true a x e in omega arith)

loss_down : (l : ℤ) (a m : ℕ) → le_z (neg_ℤ (pos a)) l ≡ true → a ≤ m → le_z (neg_ℤ (pos m)) l ≡ true
loss_down (pos x) a zero e h = le-leb 0 x (omega arith)
loss_down (pos x) a (suc m) e h = refl
loss_down (negsuc x) zero m e h = never e
loss_down (negsuc x) (suc a) zero e h = absurd (omega arith)
loss_down (negsuc x) (suc a) (suc m) e h = le-leb x m (let k = leb-true x a e in omega arith)

-- the two tables are those of the limits
size_test : ℕ → Bool
size_test f =
    cond (is_below f)
    (le_z (limit_at f).low (neg_ℤ (pos (get_or most f 0))) && le_z (neg_ℤ (pos (get_or least f 0))) (limit_at f).high)
    (le_z (limit_at f).low (pos (get_or least f 0)) && le_z (pos (get_or most f 0)) (limit_at f).high)

sizes : every field_count size_test ≡ true
unfolding every size_test is_below limit_at limits least most
sizes = refl

field_lt : (i : ℕ) → i < param_count → field_of i < field_count
field_lt i h =
    by_order (field_of i < field_count) i 19
    (λ l. rw (lt-ltb i 19 l) (omega arith))
    (λ l. rw (le-ltb i 19 l) (omega arith))

gain_number : (m : ℕ) → number_of (code_for false m) ≡ pos m
unfolding code_for
gain_number m = number_code (pos m)

loss_number : (m : ℕ) → number_of (code_for true m) ≡ neg_ℤ (pos m)
unfolding code_for
loss_number zero = refl
loss_number (suc m) = let e : 2 * suc m - 1 ≡ 2 * m + 1 = omega arith in ap number_of e ∙ number_code (negsuc m)

module _ (st : State) (i : ℕ) (h : i < param_count) (m : ℕ) (e : code_for (below i) m ≡ code_in st i) where
  number_lies :
      get_or least (field_of i) 0 ≤ m →
      m ≤ get_or most (field_of i) 0 →
      lies (number_of (code_for (is_below (field_of i)) m)) (limit_at (field_of i)) ≡ true
  unfolding size_test
  number_lies a b =
      let f = field_of i in
      let t = every_at size_test field_count f sizes (field_lt i h) in
      by_test (lies (number_of (code_for (is_below f) m)) (limit_at f) ≡ true) (is_below f)
      (λ s.
      let q = both _ _ (sym (rw s) ∙ t) in
      rw (s, loss_number m)
      (rw (loss_up (limit_at f).low (get_or most f 0) m q.0 b, loss_down (limit_at f).high (get_or least f 0) m q.1 a)))
      (λ s.
      let q = both _ _ (sym (rw s) ∙ t) in
      rw (s, gain_number m)
      (rw (gain_up (limit_at f).low (get_or least f 0) m q.0 a, gain_down (limit_at f).high (get_or most f 0) m q.1 b)))

  pub lies_told : (low high : ℕ) → low ≡ get_or least (field_of i) 0 → high ≡ get_or most (field_of i) 0 → leb low m && leb m high ≡ true →
      in_limits (map number_of st.codes) i ≡ true
  unfolding code_in
  lies_told low high el eh t =
      let q = both (leb low m) (leb m high) t in
      let a = leb-true low m q.0 in
      let b = leb-true m high q.1 in
      let z : lies (number_of (get_or st.codes i 0)) (limit_at (field_of i)) ≡ true =
      ap (λ (c : ℕ). lies (number_of c) (limit_at (field_of i))) (sym e) ∙ number_lies (omega arith) (omega arith) in
      sym (code_in_lem st.codes i true (sym z))

pub numbers_told :
    (codes : List ℕ) →
    every general_count (in_limits (map number_of codes)) ≡ true →
    every of_topic (λ j. every topic_count (λ k. in_limits (map number_of codes) (place k j))) ≡ true →
    Within codes
numbers_told codes g f = sym (fields_are (in_limits (map number_of codes)) g true (sym f))

-- ---- the joint rules
module _ (codes : List ℕ) (ok : Within codes) where
  -- the codes of the numbers that the rules compare
  gain : (i : ℕ) → i < 5 → get_or codes i 0 ≡ 2 * size_in codes i
  unfolding limit_at limits
  gain zero l = gain_code codes ok 0 (omega arith) 0 refl tt
  gain (suc zero) l = gain_code codes ok 1 (omega arith) 1 refl tt
  gain (suc (suc zero)) l = gain_code codes ok 2 (omega arith) 2 refl tt
  gain (suc (suc (suc zero))) l = gain_code codes ok 3 (omega arith) 3 refl tt
  gain (suc (suc (suc (suc zero)))) l = gain_code codes ok 4 (omega arith) 4 refl tt
  gain (suc (suc (suc (suc (suc i))))) l = absurd (omega arith)

  loss9 : get_or codes 9 0 + 1 ≡ 2 * size_in codes 9
  unfolding limit_at limits
  loss9 = loss_code codes ok 9 (omega arith) 9 refl tt

  loss10 : get_or codes 10 0 + 1 ≡ 2 * size_in codes 10
  unfolding limit_at limits
  loss10 = loss_code codes ok 10 (omega arith) 10 refl tt

  loss11 : get_or codes 11 0 + 1 ≡ 2 * size_in codes 11
  unfolding limit_at limits
  loss11 = loss_code codes ok 11 (omega arith) 11 refl tt

  threshold : (t : ℕ) → t < topic_count → get_or codes (place t 10) 0 ≡ 2 * size_in codes (place t 10)
  unfolding limit_at limits
  threshold t h = gain_code codes ok (place t 10) (omega arith) 29 (topic_field t 10 (omega arith)) tt

  cap : (t : ℕ) → t < topic_count → get_or codes (place t 9) 0 ≡ 2 * size_in codes (place t 9)
  unfolding limit_at limits
  cap t h = gain_code codes ok (place t 9) (omega arith) 28 (topic_field t 9 (omega arith)) tt

  -- sums of small magnitudes
  pub out_few : size_in codes 3 ≤ 24
  unfolding limit_at limits
  out_few = most_of codes ok 3 (omega arith) 3 refl 24 tt

  pub score_few : size_in codes 4 ≤ 48
  unfolding limit_at limits
  score_few = most_of codes ok 4 (omega arith) 4 refl 48 tt

  pub cap_told :
      (t c n : ℕ) →
      t < topic_count →
      c ≡ size_in codes (place t 9) →
      n ≡ size_in codes (place t 10) →
      leb n c ≡ true →
      cap_rule (map number_of codes) t ≡ true
  cap_told t c n h ec en e =
      let a = threshold t h in
      let b = cap t h in
      let l = leb-true n c e in
      sym (cap_of codes ok t h) ∙ le-leb (get_or codes (place t 10) 0) (get_or codes (place t 9) 0) (omega arith)

  pub first_told : size_in codes 4 + size_in codes 3 ≤ size_in codes 1 → score_rule (map number_of codes) First ≡ true
  first_told h =
      let a = gain 4 (omega arith) in
      let b = gain 3 (omega arith) in
      let c = gain 1 (omega arith) in
      sym (sum_out codes ok) ∙ le-leb (get_or codes 4 0 + get_or codes 3 0) (get_or codes 1 0) (omega arith)

  pub second_told : size_in codes 4 ≤ size_in codes 1 → score_rule (map number_of codes) Second ≡ true
  second_told h =
      let a = gain 4 (omega arith) in
      let c = gain 1 (omega arith) in
      sym (le_score codes ok) ∙ le-leb (get_or codes 4 0) (get_or codes 1 0) (omega arith)

  module _ (e : Edition) (d : Degrees codes) (s : score_rule (map number_of codes) e ≡ true) (t : Thresholds codes)
      (k : every topic_count (cap_rule (map number_of codes)) ≡ true) where
    rule_holds : (n : ℕ) → n < rule_count → rule (map number_of codes) e n ≡ true
    rule_holds zero l =
        let a = gain 0 (omega arith) in
        let b = gain 1 (omega arith) in
        sym (le_lo codes ok e) ∙ le-leb (get_or codes 0 0) (get_or codes 1 0) (omega (arith, d.lo))
    rule_holds (suc zero) l =
        let a = gain 1 (omega arith) in
        let b = gain 2 (omega arith) in
        sym (le_hi codes ok e) ∙ le-leb (get_or codes 1 0) (get_or codes 2 0) (omega (arith, d.hi))
    rule_holds (suc (suc zero)) l =
        let a = gain 3 (omega arith) in
        let b = gain 0 (omega arith) in
        sym (lt_lo codes ok e) ∙ lt-ltb (get_or codes 3 0) (get_or codes 0 0) (omega (arith, d.out))
    rule_holds (suc (suc (suc zero))) l =
        let a = gain 3 (omega arith) in
        let b = gain 1 (omega arith) in
        sym (twice_out codes ok e) ∙ le-leb (2 * get_or codes 3 0) (get_or codes 1 0) (omega (arith, d.twice))
    rule_holds (suc (suc (suc (suc zero)))) l = sym (score_is codes ok e) ∙ s
    rule_holds (suc (suc (suc (suc (suc zero))))) l =
        sym (le_gossip codes ok e) ∙ le-leb (get_or codes 10 0) (get_or codes 11 0) (omega (arith, loss10, loss11, t.publish))
    rule_holds (suc (suc (suc (suc (suc (suc zero)))))) l =
        sym (lt_publish codes ok e) ∙ lt-ltb (get_or codes 11 0) (get_or codes 9 0) (omega (arith, loss11, loss9, t.graylist))
    rule_holds (suc (suc (suc (suc (suc (suc (suc zero))))))) l = sym (caps_are codes ok e) ∙ k
    rule_holds (suc (suc (suc (suc (suc (suc (suc (suc n)))))))) l = absurd (omega arith)

    pub rules_told : every rule_count (rule (map number_of codes) e) ≡ true
    rules_told = every_by (rule (map number_of codes) e) rule_count rule_holds

pub accepted_told :
    (c : List ℕ) (e : Edition) →
    Within (state_of c).codes →
    every rule_count (rule (map number_of (state_of c).codes) e) ≡ true →
    accepted_by e (state_of c).codes ≡ true
unfolding accepted_by
accepted_told c e a b =
    rw (eq-eqb (length (state_of c).codes) param_count (sized_of c).codes) (accepted_is (coded e (state_of c).codes) ∙ rw (a, b))

-- ---- the tests
module _ (codes : List ℕ) where
  pub degrees_told :
      (lo d hi out : ℕ) →
      lo ≡ size_in codes 0 →
      d ≡ size_in codes 1 →
      hi ≡ size_in codes 2 →
      out ≡ size_in codes 3 →
      leb lo d && leb d hi && ltb out lo && leb (2 * out) d ≡ true →
      Degrees codes
  degrees_told lo d hi out e0 e1 e2 e3 t =
      let q3 = both (leb lo d && leb d hi && ltb out lo) (leb (2 * out) d) t in
      let q2 = both (leb lo d && leb d hi) (ltb out lo) q3.0 in
      let q1 = both (leb lo d) (leb d hi) q2.0 in
      record {
        lo = let h = leb-true lo d q1.0 in omega arith;
        hi = let h = leb-true d hi q1.1 in omega arith;
        out = let h = ltb-true out lo q2.1 in omega arith;
        twice = let h = leb-true (2 * out) d q3.1 in omega arith;
      }

  pub thresholds_told :
      (graylist gossip publish : ℕ) →
      graylist ≡ size_in codes 9 →
      gossip ≡ size_in codes 10 →
      publish ≡ size_in codes 11 →
      leb gossip publish && ltb publish graylist ≡ true →
      Thresholds codes
  thresholds_told graylist gossip publish e9 e10 e11 t =
      let q = both (leb gossip publish) (ltb publish graylist) t in
      record {
        publish = let h = leb-true gossip publish q.0 in omega arith;
        graylist = let h = ltb-true publish graylist q.1 in omega arith;
      }

-- a magnitude of the state's
pub size_of : (st : State) (i m : ℕ) → m ≡ magnitude (code_in st i) → m ≡ size_in st.codes i
unfolding code_in
size_of st i m e = e

pub accepted_in_lem :
    (n : ℕ) (codes : List ℕ) (m : Option Edition) (e : Edition) →
    m ≡ edition_of n →
    m ≡ Some e →
    accepted_by e codes ≡ true →
    accepted_codes n codes ≡ true
accepted_in_lem n codes m e q t a = sym (edition_known n codes m q e true t (sym a))

-- ---- the rows of the two tables
pub general_row : (l r : List ℕ) (i : ℕ) → i < general_count → l ≡ r → get_or l i 0 ≡ get_or r (field_of i) 0
general_row l r i h e = ap (λ (x : List ℕ). get_or x i 0) e ∙ ap (λ (f : ℕ). get_or r f 0) (sym (general_field i h))

pub topic_row : (r : List ℕ) (t j x : ℕ) → j < of_topic → x ≡ get_or r (general_count + j) 0 → x ≡ get_or r (field_of (place t j)) 0
topic_row r t j x h e = e ∙ ap (λ (f : ℕ). get_or r f 0) (sym (topic_field t j h))

pub score_told :
    {e d : Edition} (codes : List ℕ) →
    e ≡ d →
    score_rule (map number_of codes) d ≡ true →
    score_rule (map number_of codes) e ≡ true
score_told codes q t = ap (score_rule (map number_of codes)) q ∙ t

-- the rule on D_score, of magnitudes of the state's
module _ (st : State) (ok : Within st.codes) (d out score : ℕ) (ed : d ≡ magnitude (code_in st 1)) (eo : out ≡ magnitude (code_in st 3))
    (es : score ≡ magnitude (code_in st 4)) where
  pub sum_few : score + out ≤ 72
  sum_few = omega (arith, size_of st 3 out eo, size_of st 4 score es, out_few st.codes ok, score_few st.codes ok)

  pub first_read : leb (score + out) d ≡ true → score_rule (map number_of st.codes) First ≡ true
  first_read e =
      let h = leb-true (score + out) d e in
      first_told st.codes ok (omega (arith, size_of st 1 d ed, size_of st 3 out eo, size_of st 4 score es))

  pub second_read : leb score d ≡ true → score_rule (map number_of st.codes) Second ≡ true
  second_read e =
      let h = leb-true score d e in
      second_told st.codes ok (omega (arith, size_of st 1 d ed, size_of st 4 score es))
