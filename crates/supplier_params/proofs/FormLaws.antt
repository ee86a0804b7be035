-- Every row of the table of fields is one that entries can be imported and exported by: a test that is computed for each thing asked.
-- Assumes nothing.
use Rattle.index.proofs.Kit.{ℕ, ◌+◌, ◌*◌, ◌<◌, ◌≡◌, refl, Bool, true, false, not, arith, by_order}
use Rattle.index.specs.Index.{every}
use Prim.Native.Nat.{◌^◌}
use mathlib.Core.Bool.{◌&&◌, ◌||◌}
use borrow.Author.Tests.{eq-eqb, ne_eqb, lt-ltb, le-ltb, ltb-true, leb-true}
use lib.Dec.{ltb, leb, eqb}
use lib.IntN.{pos, nat_abs}
use lib.Signed.{non_neg, pos-nat_abs}
use Rattle.records.specs.Records.{param_count}
use Rattle.index.proofs.Index.{both, every_at}
use Rattle.limits.specs.Limits.{general_count, field_count, limits, field_of, limit_at}
use Rattle.limits.proofs.LimitLaws.{yes}
use Rattle.supplier_entry.specs.Entries.{factor_kind, whole_kind, span_kind}
use Rattle.supplier_entry.specs.Asked.{Among, Field}
use Rattle.supplier_params.specs.Forms.{forms, form_at}

-- one of the three kinds
three_test : ℕ → Bool
three_test f = leb (form_at f).kind 2

all_three : every field_count three_test ≡ true
unfolding every three_test form_at forms
all_three = refl

-- the limits of a factor and of a span are natural numbers
natural_test : ℕ → Bool
natural_test f = eqb (form_at f).kind whole_kind || (non_neg (limit_at f).low && non_neg (limit_at f).high)

all_natural : every field_count natural_test ≡ true
unfolding every natural_test form_at forms limit_at limits
all_natural = refl

-- a factor is at most 1000 thousandths
most_test : ℕ → Bool
most_test f = not (eqb (form_at f).kind factor_kind) || leb (nat_abs (limit_at f).high) 1000

all_most : every field_count most_test ≡ true
unfolding every most_test form_at forms limit_at limits
all_most = refl

-- a span's unit is more than a nanosecond
unit_test : ℕ → Bool
unit_test f = not (eqb (form_at f).kind span_kind) || ltb 1 (form_at f).unit

all_units : every field_count unit_test ≡ true
unfolding every unit_test form_at forms
all_units = refl

-- the limits are small, in units too
size_test : ℕ → Bool
size_test f = ltb (nat_abs (limit_at f).low) (2 ^ 62) && ltb (nat_abs (limit_at f).high) (2 ^ 62)

all_sizes : every field_count size_test ≡ true
unfolding every size_test limit_at limits
all_sizes = refl

room_test : ℕ → Bool
room_test f = ltb ((nat_abs (limit_at f).low + nat_abs (limit_at f).high) * (form_at f).unit) (2 ^ 63)

all_room : every field_count room_test ≡ true
unfolding every room_test form_at forms limit_at limits
all_room = refl

-- one of two tests holds, and the first does not
second : (a b : Bool) → (a || b) ≡ true → a ≡ false → b ≡ true
second true b t e = let z : ◌≡◌ {A = ℕ} 0 1 = cc in absurd (omega arith)
second false b t e = t

not_first : (a b : Bool) → (not a || b) ≡ true → a ≡ true → b ≡ true
not_first true b t e = t
not_first false b t e = let z : ◌≡◌ {A = ℕ} 0 1 = cc in absurd (omega arith)

module _ (f : ℕ) (h : f < field_count) where
  natural : ((form_at f).kind ≡ whole_kind → ⊥) → (pos (nat_abs (limit_at f).low) ≡ (limit_at f).low)
      × (pos (nat_abs (limit_at f).high) ≡ (limit_at f).high)
  unfolding natural_test
  natural n =
      let t = second (eqb (form_at f).kind whole_kind) (non_neg (limit_at f).low && non_neg (limit_at f).high)
      (every_at natural_test field_count f all_natural h) (ne_eqb (form_at f).kind whole_kind n) in
      let s = both (non_neg (limit_at f).low) (non_neg (limit_at f).high) t in (
        pos-nat_abs (limit_at f).low (yes (non_neg (limit_at f).low) s.0),
        pos-nat_abs (limit_at f).high (yes (non_neg (limit_at f).high) s.1),
      )

  among : (form_at f).kind ≡ factor_kind → Among (limit_at f)
  unfolding most_test
  among e =
      let n = natural (λ w. omega arith) in
      record {
        low = n.0;
        high = n.1;
        most = leb-true (nat_abs (limit_at f).high) 1000
            (not_first (eqb (form_at f).kind factor_kind) (leb (nat_abs (limit_at f).high) 1000) (every_at most_test field_count f all_most h)
            (eq-eqb (form_at f).kind factor_kind e));
      }

  divides : (form_at f).kind ≡ span_kind → 1 < (form_at f).unit
  unfolding unit_test
  divides e = ltb-true 1 (form_at f).unit
      (not_first (eqb (form_at f).kind span_kind) (ltb 1 (form_at f).unit) (every_at unit_test field_count f all_units h)
      (eq-eqb (form_at f).kind span_kind e))

  sizes : (nat_abs (limit_at f).low < 2 ^ 62) × (nat_abs (limit_at f).high < 2 ^ 62)
  unfolding size_test
  sizes =
      let t = both (ltb (nat_abs (limit_at f).low) (2 ^ 62)) (ltb (nat_abs (limit_at f).high) (2 ^ 62))
      (every_at size_test field_count f all_sizes h) in
      (ltb-true (nat_abs (limit_at f).low) (2 ^ 62) t.0, ltb-true (nat_abs (limit_at f).high) (2 ^ 62) t.1)

  field_row : Field (form_at f) (limit_at f)
  unfolding three_test room_test
  field_row =
      record {
        three = leb-true (form_at f).kind 2 (every_at three_test field_count f all_three h);
        fit = record { factors = among; spans = divides };
        natural = λ e. natural (λ w. omega arith);
        size = sizes;
        room = ltb-true ((nat_abs (limit_at f).low + nat_abs (limit_at f).high) * (form_at f).unit) (2 ^ 63)
            (every_at room_test field_count f all_room h);
      }

field_lt : (i : ℕ) → i < param_count → field_of i < field_count
field_lt i h =
    by_order (field_of i < field_count) i general_count
    (λ l. rw (lt-ltb i general_count l) (omega arith))
    (λ g. rw (le-ltb i general_count g) (omega arith))

-- the field of number i
pub field_at : (i : ℕ) → i < param_count → Field (form_at (field_of i)) (limit_at (field_of i))
field_at i h = field_row (field_of i) (field_lt i h)
