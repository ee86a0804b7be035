-- `supplier::put_export` meets its contract. Assumes nothing.
use Rattle.index.proofs.Kit.{arith, refl, sym, ◌∙◌}
use Rattle.params_bytes.proofs.ReadLaws.{as_taken, as_refused}
use Rattle.supplier.proofs.OutputLaws.{export_as}
use Rattle.supplier.proofs.put_export.Goals as goal

pub returns-in-Ok : goal.returns-in-Ok
returns-in-Ok c = (
  export_as _ _ _ (as_taken _ _ _ (sym c.in-Ok.is ∙ c.read.ensures)) refl _ _ _
      c.put_exported.ensures.0,
  c.put_exported.ensures.1,
)

pub returns-in-Err-Malformed : goal.returns-in-Err-Malformed
returns-in-Err-Malformed c = (
  export_as _ _ _ refl (as_refused _ _ (sym (rw c.in-Err-Malformed.field-0-is at c.in-Err-Malformed.is) ∙ c.read.ensures)) _ _ _ c.put_head.ensures.0,
  omega arith,
)

pub returns-in-Err-Broken : goal.returns-in-Err-Broken
returns-in-Err-Broken c = (
  export_as _ _ _ refl (as_refused _ _ (sym (rw c.in-Err-Broken.field-0-is at c.in-Err-Broken.is) ∙ c.read.ensures)) _ _ _ c.put_head-in-Err-Broken.ensures.0,
  omega arith,
)
