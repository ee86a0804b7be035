-- `show_params::show` meets its contract. Assumes nothing.
use native.Mathlib.Omega.{arith}
use mathlib.Core.Path.{refl, sym, ◌∙◌}
use Rattle.params_bytes.proofs.ReadLaws.{as_taken, as_refused}
use Rattle.show_params.proofs.ShowLaws.{shown_stored, shown_refused}
use Rattle.show_params.proofs.show.Goals as goal

pub returns-in-Ok : goal.returns-in-Ok
returns-in-Ok c = (
  shown_stored _ _ _ (as_taken _ _ _ (sym c.in-Ok.is ∙ c.read.ensures)) refl _ _ _ _ _ c.put_head-at.ensures.0 c.put_numbers.ensures.0,
  omega arith,
)

pub returns-in-Err-Malformed : goal.returns-in-Err-Malformed
returns-in-Err-Malformed c = (
  shown_refused _ _ _ refl (as_refused _ _ (sym (rw c.in-Err-Malformed.field-0-is at c.in-Err-Malformed.is) ∙ c.read.ensures)) refl _ _ _ c.put_head.ensures.0,
  omega arith,
)

pub returns-in-Err-Broken : goal.returns-in-Err-Broken
returns-in-Err-Broken c = (
  shown_refused _ _ _ refl (as_refused _ _ (sym (rw c.in-Err-Broken.field-0-is at c.in-Err-Broken.is) ∙ c.read.ensures)) refl _ _ _
      c.put_head-in-Err-Broken.ensures.0,
  omega arith,
)
