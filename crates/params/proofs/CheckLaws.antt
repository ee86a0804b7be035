-- Laws of the check: the ends of `first_broken`, and what holds of parameters that pass it.
-- Assumes nothing.
use Rattle.std.proofs.Common.{Option, Some, None}
use Rattle.std.specs.Option.{is_some}
use Rattle.index.proofs.Kit.{ℕ, ◌+◌, ◌<◌, ◌≤◌, ◌≡◌, refl, sym, ap, ◌∙◌, Bool, true, false, not, arith}
use Rattle.index.specs.Index.{first, every, or_else}
use Prim.Native.Nat.{zero, suc}
use mathlib.Core.Bool.{◌&&◌, cond}
use mathlib.Core.List.{List, [], ◌∷◌, map}
use borrow.Author.Tests.{not-false, eq-eqb, ne_eqb, eqb-true}
use lib.Dec.{eqb}
use lib.ListN.{length, get_or, length-map}
use lib.IntN.{ℤ}
use Rattle.index.proofs.Index.{both, every_by, first_passed, first_is}
use Rattle.varint.specs.Codes.{code_of, number_of}
use Rattle.varint.proofs.CodeLaws.{number_code}
use Rattle.records.specs.Records.{param_count}
use Rattle.limits.specs.Limits.{in_limits, outside}
use Rattle.params.specs.declared.Edition.{Edition}
use Rattle.params.specs.declared.Edition.TheVariants.{First, Second}
use Rattle.params.specs.declared.Params.{Params}
use Rattle.params.specs.Editions.{edition_number, edition_of, coded}
use Rattle.params.specs.Joint.{rule_count, joint, rule}
use Rattle.params.specs.Check.{first_rule, broken, as_rule, first_broken, is_nothing, accepted_by, accepted_in, accepted_codes}

-- numbers that were all found between their limits
pub found_in : (xs : List ℤ) → first param_count (outside xs) ≡ None → (i : ℕ) → i < param_count → in_limits xs i ≡ true
unfolding outside
found_in xs e i h = not-false (in_limits xs i) (first_passed (λ i. not (in_limits xs i)) param_count e i h)

pub found_within : (xs : List ℤ) (f : Option ℕ) → f ≡ first param_count (outside xs) → f ≡ None → every param_count (in_limits xs) ≡ true
found_within xs f e t = every_by (in_limits xs) param_count (found_in xs (sym e ∙ t))

-- a check that found nothing had nothing in either half
none_left : (f g : Option ℕ) → or_else f g ≡ None → (f ≡ None) × (g ≡ None)
none_left (Some i) g e = let z : ◌≡◌ {A = ℕ} 0 1 = cc in absurd (omega arith)
none_left None g e = (refl, e)

module _ (p : Params) (ok : first_broken p ≡ None) where
  none_outside : first param_count (outside p.numbers) ≡ None
  unfolding first_broken
  none_outside = (none_left (first param_count (outside p.numbers)) (as_rule (first rule_count (broken p.numbers p.edition))) ok).0

  pub accepted_in_lem : (i : ℕ) → i < param_count → in_limits p.numbers i ≡ true
  accepted_in_lem = found_in p.numbers none_outside

-- ---- the ends of `first_broken_code`
module _ (p : Params) (f : Option ℕ) (e : f ≡ first param_count (outside p.numbers)) where
  pub number_broken : (i : ℕ) → f ≡ Some i → Some i ≡ first_broken p
  unfolding first_broken
  number_broken i t = rw (← e, t)

  module _ (t : f ≡ None) (g : Option ℕ) (d : g ≡ first rule_count (broken p.numbers p.edition)) where
    pub rule_broken : (k : ℕ) → g ≡ Some k → Some (first_rule + k) ≡ first_broken p
    unfolding first_broken
    rule_broken k s = rw (← e, t, ← d, s)

    pub none_broken : g ≡ None → None ≡ first_broken p
    unfolding first_broken
    none_broken s = rw (← e, t, ← d, s)

-- a rule that was found is one of eight
pub rule_small : (xs : List ℤ) (e : Edition) (g : Option ℕ) (k : ℕ) → g ≡ first rule_count (broken xs e) → g ≡ Some k → k < rule_count
rule_small xs e g k d s = (first_is (broken xs e) rule_count k (sym d ∙ s)).0

-- what is broken is one of 147 numbers or of eight rules
pub broken_most : (p : Params) (i : ℕ) → first_broken p ≡ Some i → i ≤ 207
unfolding first_broken
broken_most p i e = go (first param_count (outside xs)) refl (first rule_count (broken xs p.edition)) refl e
  where
    xs : List ℤ
    xs = p.numbers

    go :
        (f : Option ℕ) → first param_count (outside xs) ≡ f → (g : Option ℕ) → first rule_count (broken xs p.edition) ≡ g →
        or_else f (as_rule g) ≡ Some i → i ≤ 207
    go (Some j) q g r z =
        let y : j ≡ i = cc in
        omega (arith, (first_is (outside xs) param_count j q).0)
    go None q (Some k) r z =
        let y : first_rule + k ≡ i = cc in
        omega (arith, (first_is (broken xs p.edition) rule_count k r).0)
    go None q None r z = let y : ◌≡◌ {A = ℕ} 0 1 = cc in absurd (omega arith)

pub is_nothing_lem : (f : Option ℕ) → is_nothing f ≡ true → f ≡ None
is_nothing_lem (Some i) e = let z : ◌≡◌ {A = ℕ} 0 1 = cc in absurd (omega arith)
is_nothing_lem None e = refl

-- a search for a failed test finds nothing exactly if every test passes
nothing_every : (f : ℕ → Bool) (n : ℕ) → is_nothing (first n (λ i. not (f i))) ≡ every n f
unfolding first every
nothing_every f zero = refl
nothing_every f (suc n) = go (first n (λ i. not (f i))) (f n) ∙ ap (λ (b : Bool). b && f n) (nothing_every f n)
  where
    go : (g : Option ℕ) (b : Bool) → is_nothing (or_else g (cond (not b) (Some n) None)) ≡ is_nothing g && b
    go (Some i) b = refl
    go None true = refl
    go None false = refl

nothing_both : (f g : Option ℕ) → is_nothing (or_else f (as_rule g)) ≡ is_nothing f && is_nothing g
nothing_both (Some i) g = refl
nothing_both None (Some k) = refl
nothing_both None None = refl

-- to pass the check is to pass every test
pub accepted_is : (p : Params) → is_nothing (first_broken p)
    ≡ every param_count (in_limits p.numbers) && every rule_count (rule p.numbers p.edition)
unfolding first_broken outside broken
accepted_is p =
    nothing_both (first param_count (λ i. not (in_limits p.numbers i))) (first rule_count (λ k. not (rule p.numbers p.edition k)))
    ∙ rw (nothing_every (in_limits p.numbers) param_count, nothing_every (rule p.numbers p.edition) rule_count)

-- ---- the ends of `accepts`
pub none_told : (f : Option ℕ) (r : Bool) → is_some f ≡ not r → r ≡ is_nothing f
none_told (Some k) true e = e
none_told (Some k) false e = refl
none_told None true e = refl
none_told None false e = e

module _ (e : Edition) (codes : List ℕ) where
  pub codes_short : (length codes ≡ param_count → ⊥) → false ≡ accepted_by e codes
  unfolding accepted_by
  codes_short h = rw (ne_eqb (length codes) param_count h)

  module _ (h : length codes ≡ param_count) (a : Bool) (q : a ≡ every param_count (in_limits (map number_of codes))) where
    tested : every param_count (in_limits (map number_of codes)) && every rule_count (rule (map number_of codes) e) ≡ accepted_by e codes
    unfolding accepted_by
    tested = rw (eq-eqb (length codes) param_count h) (sym (accepted_is (coded e codes)))

    pub codes_outside : a ≡ false → false ≡ accepted_by e codes
    codes_outside t = ap (λ (b : Bool). b && every rule_count (rule (map number_of codes) e)) (sym t ∙ q) ∙ tested

    pub codes_within : a ≡ true → every param_count (in_limits (map number_of codes)) ≡ true
    codes_within t = sym q ∙ t

    -- the joint rules decide
    pub codes_judged : (f : Option ℕ) → a ≡ true → f ≡ first rule_count (broken (map number_of codes) e) → is_nothing f ≡ accepted_by e codes
    unfolding broken
    codes_judged f t d =
        ap is_nothing d
        ∙ nothing_every (rule (map number_of codes) e) rule_count
        ∙ ap (λ (b : Bool). b && every rule_count (rule (map number_of codes) e)) (sym (codes_within t))
        ∙ tested

-- ---- a rule that was told
any_default : (l : List Bool) (k : ℕ) → k < length l → get_or l k false ≡ get_or l k true
any_default [] k h = absurd (omega arith)
any_default (x ∷ l) zero h = refl
any_default (x ∷ l) (suc k) h = any_default l k (omega arith)

pub rule_told :
    (xs : List ℤ) (e : Edition) (k : ℕ) (l : List Bool) (b : Bool) → l ≡ joint xs e → k < rule_count → get_or l k false ≡ b →
    broken xs e k ≡ not b
unfolding broken rule joint
rule_told xs e k l b q h t =
    ap not (sym (any_default (joint xs e) k h) ∙ ap (λ (m : List Bool). get_or m k false) (sym q) ∙ t)

-- ---- the ends of `try_from`
pub is_first : (n : ℕ) → n ≡ 1 → Some First ≡ edition_of n
unfolding edition_of
is_first n q = rw q refl

pub is_second : (n : ℕ) → n ≡ 2 → Some Second ≡ edition_of n
unfolding edition_of
is_second n q = rw q refl

pub is_neither : (n : ℕ) → (n ≡ 1 → ⊥) → (n ≡ 2 → ⊥) → None ≡ edition_of n
unfolding edition_of
is_neither n p q = rw (ne_eqb n 1 p, ne_eqb n 2 q)

-- ---- the ends of `accepts_codes`
module _ (n : ℕ) (codes : List ℕ) (m : Option Edition) (q : m ≡ edition_of n) where
  pub edition_known : (e : Edition) (r : Bool) → m ≡ Some e → r ≡ accepted_by e codes → r ≡ accepted_codes n codes
  unfolding accepted_codes
  edition_known e r t d = d ∙ rw (← q, t)

  pub edition_unknown : m ≡ None → false ≡ accepted_codes n codes
  unfolding accepted_codes
  edition_unknown t = rw (← q, t)

-- ---- the codes of numbers
pub numbers_back : (xs : List ℤ) → map number_of (map code_of xs) ≡ xs
numbers_back [] = refl
numbers_back (n ∷ l) = λ i. number_code n i ∷ numbers_back l i

pub coded_back : (p : Params) → coded p.edition (map code_of p.numbers) ≡ p
coded_back p = λ i. record { numbers = numbers_back p.numbers i; edition = p.edition }

pub edition_back : (e : Edition) → edition_of (edition_number e) ≡ Some e
unfolding edition_of
edition_back First = refl
edition_back Second = refl

-- parameters that pass the check have codes that are accepted
pub accepted_back :
    (p : Params) → length p.numbers ≡ param_count → first_broken p ≡ None →
    accepted_codes (edition_number p.edition) (map code_of p.numbers) ≡ true
unfolding accepted_codes accepted_by
accepted_back p l e =
    let m : length (map code_of p.numbers) ≡ param_count = length-map p.numbers code_of ∙ l in
    rw (edition_back p.edition, eq-eqb (length (map code_of p.numbers)) param_count m, coded_back p, e)

-- ---- codes that are accepted are those of parameters that pass the check
pub record Accepted (n : ℕ) (codes : List ℕ) : Type 0 where
  pub edition : Edition
  pub known : edition_of n ≡ Some edition
  pub size : length codes ≡ param_count
  pub passes : first_broken (coded edition codes) ≡ None

pub accepted_codes_lem : (n : ℕ) (codes : List ℕ) → accepted_codes n codes ≡ true → Accepted n codes
unfolding accepted_codes accepted_by
accepted_codes_lem n codes h = go (edition_of n) refl h
  where
    go : (m : Option Edition) → edition_of n ≡ m → accepted_in m codes ≡ true → Accepted n codes
    go (Some e) q z =
        let b = both (eqb (length codes) param_count) (is_nothing (first_broken (coded e codes))) z in
        record {
          edition = e;
          known = q;
          size = eqb-true (length codes) param_count b.0;
          passes = is_nothing_lem (first_broken (coded e codes)) b.1;
        }
    go None q z = let y : ◌≡◌ {A = ℕ} 0 1 = cc in absurd (omega arith)

pub codes_pass :
    (n : ℕ) (codes : List ℕ) (h : accepted_codes n codes ≡ true) →
    let a = accepted_codes_lem n codes h in
    (every param_count (in_limits (map number_of codes)) ≡ true) × (every rule_count (rule (map number_of codes) a.edition) ≡ true)
codes_pass n codes h =
    let a = accepted_codes_lem n codes h in
    both (every param_count (in_limits (map number_of codes))) (every rule_count (rule (map number_of codes) a.edition))
    (sym (accepted_is (coded a.edition codes)) ∙ ap is_nothing a.passes)
