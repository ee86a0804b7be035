-- `rpc::check_entry` meets its contract. Assumes nothing.
use Rattle.index.proofs.Kit.{◌∙◌}
use Rattle.rpc.proofs.CheckLaws.{entry_whole, entry_torn, err_is}
use Rattle.rpc.proofs.check_entry.Goals as goal

pub returns-in_err-check_fields : goal.returns-in_err-check_fields
returns-in_err-check_fields c =
    err_is _ _ c.from_residual.ensures.1 ∙ entry_torn _ _ _ _ _ c.check_fields.ensures _ c.in_err-check_fields.was

pub returns : goal.returns
returns c = entry_whole _ _ _ _ _ c.check_fields.ensures _ c.in_ok-check_fields.was c.one_more.ensures
