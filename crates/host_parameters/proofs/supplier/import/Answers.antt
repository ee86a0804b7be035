-- `host_parameters::import` meets its contract. Assumes nothing.
use Rattle.index.proofs.Kit.{arith, refl, sym, ◌∙◌}
use Rattle.params_bytes.proofs.ReadLaws.{as_taken, as_refused}
use Rattle.host_parameters.proofs.SupplierLaws.{hosts_import}
use Rattle.host_parameters.proofs.supplier.import.Goals as goal

pub packed-requires : goal.packed-requires
packed-requires c = (omega arith, c.told.ensures.1)

pub packed-requires-in-Err-Malformed : goal.packed-requires-in-Err-Malformed
packed-requires-in-Err-Malformed c = (omega arith, c.told-in-Err-Malformed.ensures.1)

pub packed-requires-in-Err-Broken : goal.packed-requires-in-Err-Broken
packed-requires-in-Err-Broken c = (omega arith, c.told-in-Err-Broken.ensures.1)

pub returns-in-Ok : goal.returns-in-Ok
returns-in-Ok c = hosts_import _ _ _ (as_taken _ _ _ (sym c.in-Ok.is ∙ c.import.ensures)) refl
    _ _ _ _ c.told.ensures.0 c.packed.ensures refl

pub returns-in-Err-Malformed : goal.returns-in-Err-Malformed
returns-in-Err-Malformed c = hosts_import _ _ _ refl (as_refused _ _ (sym (rw c.in-Err-Malformed.field-0-is at c.in-Err-Malformed.is) ∙ c.import.ensures))
    _ _ _ _ c.told-in-Err-Malformed.ensures.0 c.packed-in-Err-Malformed.ensures refl

pub returns-in-Err-Broken : goal.returns-in-Err-Broken
returns-in-Err-Broken c = hosts_import _ _ _ refl (as_refused _ _ (sym (rw c.in-Err-Broken.field-0-is at c.in-Err-Broken.is) ∙ c.import.ensures))
    _ _ _ _ c.told-in-Err-Broken.ensures.0 c.packed-in-Err-Broken.ensures refl
