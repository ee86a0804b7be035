-- `rpc::check_in` meets its contract. Assumes nothing.
use Rattle.rpc.proofs.CheckLaws.{inside_entry, inside_inner, inside_id, inside_quiet}
use Rattle.rpc.proofs.check_in.Goals as goal

pub returns-in-Entry : goal.returns-in-Entry
returns-in-Entry g c =
    inside_entry _ _ _ _ _ (rw c.KIND.ensures at c.role_of.ensures) _ _ _ c.in-Entry.is c.check_entry.ensures

pub returns-in-Inner : goal.returns-in-Inner
returns-in-Inner g c =
    inside_inner _ _ _ _ _ (rw c.KIND.ensures at c.role_of.ensures) _ _ _ c.in-Inner.is c.check_inner.ensures

pub returns-in-Id : goal.returns-in-Id
returns-in-Id g c = inside_id _ _ _ _ _ (rw c.KIND.ensures at c.role_of.ensures) _ _ c.in-Id.is c.one_more.ensures

pub returns-in-Skipped : goal.returns-in-Skipped
returns-in-Skipped g c = inside_quiet _ _ _ _ _ (rw c.KIND.ensures at c.role_of.ensures) _ c.in-Skipped.is
