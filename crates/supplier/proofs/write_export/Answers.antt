-- `supplier::write_export` meets its contract. Assumes nothing.
use Rattle.index.proofs.Kit.{arith, refl, sym, ◌∙◌}
use Rattle.params_bytes.proofs.ReadLaws.{as_taken, as_refused}
use Rattle.supplier.proofs.OutputLaws.{export_bytes_as, nothing_stored}
use Rattle.supplier.proofs.write_export.Goals as goal

pub returns-in-Ok : goal.returns-in-Ok
returns-in-Ok c = (
  export_bytes_as _ _ _ (as_taken _ _ _ (sym c.in-Ok.is ∙ c.read.ensures)) refl _ _ _
      c.write_theirs.ensures.0,
  c.write_theirs.ensures.1,
)

pub returns-in-Err : goal.returns-in-Err
returns-in-Err c = (
  export_bytes_as _ _ _ refl (as_refused _ _ (sym c.in-Err.is ∙ c.read.ensures)) _ _ _ (nothing_stored _),
  omega arith,
)
