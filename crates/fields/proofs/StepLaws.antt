-- What a loop over a message's fields learns of each step of the iterator. Assumes nothing.
use Rattle.std.proofs.Common.{Option, Some, None, Result, Ok, Err}
use Rattle.index.proofs.Kit.{ℕ, ◌<◌, ◌≤◌, ◌≡◌, sym, ap, ◌∙◌}
use mathlib.Core.List.{List}
use lib.ListN.{length}
use Rattle.fields.specs.Fields.{field_at}
use Rattle.fields.specs.Steps.{Steps}
use Rattle.fields.specs.declared.Fields.{Fields}
use Rattle.fields.specs.declared.Part.{Part}
use Rattle.fields.specs.declared.Torn.{Torn}

-- the field at the iterator's place was given, and it stands behind that now
pub record Given (s : List ℕ) (old new : Fields) (p : Part) : Type 0 where
  pub within : old.at < length s
  pub field : Some p ≡ field_at s old.at
  pub text : new.s.now ≡ s
  pub goes_on : new.at ≡ p.next

-- that field is broken
pub record Ended (s : List ℕ) (old : Fields) (t : Torn) : Type 0 where
  pub within : old.at < length s
  pub none : None ≡ field_at s old.at
  pub at : t.at ≡ old.at

module _ (s : List ℕ) (old new : Fields) (r : Option (Result Part Torn)) (text : old.s.now ≡ s) (e : Steps old r new) where
  pub step_end : r ≡ None → length s ≤ old.at
  step_end n = rw (sym text) (e.ends n)

  module _ (x : Result Part Torn) (i : r ≡ Some x) where
    pub step_field : (p : Part) → x ≡ Ok p → Given s old new p
    step_field p f =
        let q : r ≡ Some (Ok p) = i ∙ ap (λ (y : Result Part Torn). Some y) f in
        record {
          within = rw (sym text) (e.within x i);
          field = rw (sym text) (e.field p q);
          text = ap (λ (b : _). b.now) (e.goes_on p q).0 ∙ text;
          goes_on = (e.goes_on p q).1;
        }

    pub step_torn : (t : Torn) → x ≡ Err t → Ended s old t
    step_torn t f =
        let q : r ≡ Some (Err t) = i ∙ ap (λ (y : Result Part Torn). Some y) f in
        record {
          within = rw (sym text) (e.within x i);
          none = rw (sym text) (e.broken t q).0;
          at = (e.broken t q).1;
        }
