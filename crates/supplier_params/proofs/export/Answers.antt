-- `supplier_params::export` meets its contract. Assumes nothing.
use Rattle.index.proofs.Kit.{sym, ◌∙◌}
use Rattle.params.proofs.CheckLaws.{accepted_in_lem}
use Rattle.supplier_params.proofs.ExportLaws.{export_short, export_outside, export_done}
use Rattle.supplier_params.proofs.export.Goals as goal

pub returns-then-buf-lt-BYTES : goal.returns-then-buf-lt-BYTES
returns-then-buf-lt-BYTES c = export_short _ _ c.if-buf-lt-BYTES.true

pub put-requires : goal.put-requires
put-requires c = (
  c.if-buf-lt-BYTES.false,
  accepted_in_lem _ (sym c.first_broken.ensures ∙ c.in-None.is),
)

pub returns-in-Some : goal.returns-in-Some
returns-in-Some c = export_outside _ _ _ c.if-buf-lt-BYTES.false c.first_broken.ensures _
    c.in-Some.is

pub returns-in-None : goal.returns-in-None
returns-in-None c = export_done _ _ _ c.if-buf-lt-BYTES.false
    c.first_broken.ensures _
    c.in-None.is c.put.ensures
