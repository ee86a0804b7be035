-- `supplier::write_import` meets its contract. Assumes nothing.
use Rattle.index.proofs.Kit.{arith, refl, sym, ◌∙◌}
use Rattle.params_bytes.proofs.ReadLaws.{as_taken, as_refused}
use Rattle.supplier.proofs.OutputLaws.{import_bytes_as, nothing_stored}
use Rattle.supplier.proofs.write_import.Goals as goal

pub returns-in-Ok : goal.returns-in-Ok
returns-in-Ok c = (
  import_bytes_as _ _ _ (as_taken _ _ _ (sym c.in-Ok.is ∙ c.import.ensures)) refl _ _ _
      c.write_own.ensures.0,
  c.write_own.ensures.1,
)

pub returns-in-Err : goal.returns-in-Err
returns-in-Err c = (
  import_bytes_as _ _ _ refl (as_refused _ _ (sym c.in-Err.is ∙ c.import.ensures)) _ _ _ (nothing_stored _),
  omega arith,
)
