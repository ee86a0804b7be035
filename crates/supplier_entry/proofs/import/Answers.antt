-- `supplier_entry::import` meets its contract. Assumes nothing.
use Rattle.supplier_entry.proofs.EntryLaws.{import_other, import_bad, import_good, read_sound}
use Rattle.supplier_entry.proofs.import.Goals as goal

pub returns-then-kind-form : goal.returns-then-kind-form
returns-then-kind-form c = import_other _ _ _ _ c.if-kind-form.true

pub returns-in_default : goal.returns-in_default
returns-in_default c = import_bad _ _ _ _ _ c.if-kind-form.false c.read_entry.ensures c.in_default.is

pub convert-requires : goal.convert-requires
convert-requires c =
    read_sound _ _ c.args.form _ _ _ c.if-kind-form.false c.requires
    c.read_entry.ensures c.in-Some.is

pub returns : goal.returns
returns c = import_good _ _ _ _ _ c.if-kind-form.false
    c.read_entry.ensures _ _ c.in-Some.is c.convert.ensures
