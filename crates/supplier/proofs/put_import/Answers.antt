-- `supplier::put_import` meets its contract. Each verdict of the import has its text. Assumes nothing.
use Rattle.index.proofs.Kit.{arith, refl, sym, ◌∙◌}
use Rattle.params_bytes.proofs.ReadLaws.{as_taken, as_refused}
use Rattle.param_text.specs.Lines.{numbers_text}
use Rattle.text.proofs.TextLaws.{stored_then}
use Rattle.supplier.specs.Output.{done_text}
use Rattle.supplier.proofs.OutputLaws.{import_as}
use Rattle.supplier.proofs.put_import.Goals as goal

pub returns-in-Ok : goal.returns-in-Ok
returns-in-Ok c = (
  import_as _ _ _ (as_taken _ _ _ (sym c.in-Ok.is ∙ c.import.ensures)) refl _ _ _
      (stored_then c.args.buf.now 0 _ done_text _ _ (numbers_text c.in-Ok.all.numbers) _ c.put_done-at.ensures.0 c.put_numbers.ensures.0),
  omega (arith, c.put_done-at.ensures.1, c.put_numbers.ensures.1),
)

pub returns-in-Err-Malformed : goal.returns-in-Err-Malformed
returns-in-Err-Malformed c = (
  import_as _ _ _ refl (as_refused _ _ (sym (rw c.in-Err-Malformed.field-0-is at c.in-Err-Malformed.is) ∙ c.import.ensures)) _ _ _ c.put_head.ensures.0,
  omega arith,
)

pub returns-in-Err-Broken : goal.returns-in-Err-Broken
returns-in-Err-Broken c = (
  import_as _ _ _ refl (as_refused _ _ (sym (rw c.in-Err-Broken.field-0-is at c.in-Err-Broken.is) ∙ c.import.ensures)) _ _ _ c.put_head-in-Err-Broken.ensures.0,
  omega arith,
)
