-- What an iterator over a message's fields does: where its place is past the end, nothing is left; else it gives the field there and goes on
-- behind it, or says that it is broken.
use Rattle.std.specs.Prelude.{Option, Some, None, Result, Ok, Err}
use Rattle.std.specs.Prelude.{◌≤◌, ◌<◌, ◌≡◌, length}
use Rattle.fields.specs.Fields.{field_at}
use Rattle.fields.specs.declared.Fields.{Fields}
use Rattle.fields.specs.declared.Part.{Part}
use Rattle.fields.specs.declared.Torn.{Torn}

pub record Steps (old : Fields) (r : Option (Result Part Torn)) (new : Fields) : Type 0 where
  pub ends : r ≡ None → length old.s.now ≤ old.at
  pub within : (x : Result Part Torn) → r ≡ Some x → old.at < length old.s.now
  pub field : (p : Part) → r ≡ Some (Ok p) → Some p ≡ field_at old.s.now old.at
  pub goes_on : (p : Part) → r ≡ Some (Ok p) → (new.s ≡ old.s) × (new.at ≡ p.next)
  pub broken : (t : Torn) → r ≡ Some (Err t) → (None ≡ field_at old.s.now old.at) × (t.at ≡ old.at)
