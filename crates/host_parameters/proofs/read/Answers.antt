-- `host_parameters::read` meets its contract. Assumes nothing.
use Rattle.index.proofs.Kit.{arith, refl, sym, ◌∙◌}
use Rattle.params_bytes.proofs.ReadLaws.{as_taken, as_refused}
use Rattle.host_parameters.proofs.ParameterLaws.{read_fits, hosts_read}
use Rattle.host_parameters.proofs.read.Goals as goal

pub packed-requires : goal.packed-requires
packed-requires c = (
  omega arith,
  read_fits _ _ _ (as_taken _ _ _ (sym c.in-Ok.is ∙ c.read.ensures)) refl,
)

pub packed-requires-in-Err-Malformed : goal.packed-requires-in-Err-Malformed
packed-requires-in-Err-Malformed c =
    (omega arith, read_fits _ _ _ refl (as_refused _ _ (sym (rw c.in-Err-Malformed.field-0-is at c.in-Err-Malformed.is) ∙ c.read.ensures)))

pub packed-requires-in-Err-Broken : goal.packed-requires-in-Err-Broken
packed-requires-in-Err-Broken c =
    (omega arith, read_fits _ _ _ refl (as_refused _ _ (sym (rw c.in-Err-Broken.field-0-is at c.in-Err-Broken.is) ∙ c.read.ensures)))

pub returns-in-Ok : goal.returns-in-Ok
returns-in-Ok c = hosts_read _ _ _ (as_taken _ _ _ (sym c.in-Ok.is ∙ c.read.ensures)) refl
    _ _ _ _ _ c.packed.ensures refl c.from.ensures

pub returns-in-Err-Malformed : goal.returns-in-Err-Malformed
returns-in-Err-Malformed c = hosts_read _ _ _ refl (as_refused _ _ (sym (rw c.in-Err-Malformed.field-0-is at c.in-Err-Malformed.is) ∙ c.read.ensures)) _ _ _
    _ _ c.packed-in-Err-Malformed.ensures refl refl

pub returns-in-Err-Broken : goal.returns-in-Err-Broken
returns-in-Err-Broken c = hosts_read _ _ _ refl (as_refused _ _ (sym (rw c.in-Err-Broken.field-0-is at c.in-Err-Broken.is) ∙ c.read.ensures)) _ _ _
    _ _ c.packed-in-Err-Broken.ensures refl refl
