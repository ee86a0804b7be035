-- `supplier_params::import` meets its contract. Assumes nothing.
use Rattle.std.proofs.lemmas.Result.{err_from_is_err_and}
use Rattle.supplier_params.proofs.ImportLaws.{import_length, import_broken, import_judged}
use Rattle.supplier_params.proofs.import.Goals as goal

pub returns-then-n-ne-BYTES : goal.returns-then-n-ne-BYTES
returns-then-n-ne-BYTES c = import_length _ c.if-n-ne-BYTES.true

pub entries-requires : goal.entries-requires
entries-requires c = c.if-n-ne-BYTES.false

pub returns-in_err-entries : goal.returns-in_err-entries
returns-in_err-entries c =
    let p = err_from_is_err_and c.from_residual.result c.from_residual.ensures.1 in
    rw (p.1, p.2) (import_broken _ c.entries.new.numbers c.if-n-ne-BYTES.false _ c.in_err-entries.ensures)

pub returns : goal.returns
returns c = import_judged _ c.entries.new.numbers c.if-n-ne-BYTES.false _ c.in_ok-entries.ensures c.judged.ensures
