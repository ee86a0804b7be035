-- `supplier_entry::number_of` meets its contract. Assumes nothing.
use mir.Syntax.{w64}
use mir.Facts.{to_z_pos}
use Rattle.supplier_entry.proofs.EntryLaws.{small_at, number_at, number_none}
use Rattle.supplier_entry.proofs.number_of.Goals as goal

pub overflow_cast-result : goal.overflow_cast-result
overflow_cast-result c = record { sfits = small_at _ _ c.in-Some.is c.requires }

pub returns-in-Some : goal.returns-in-Some
returns-in-Some c = number_at _ _ _ c.in-Some.is (to_z_pos w64 (small_at _ _ c.in-Some.is c.requires))

pub returns-in-None : goal.returns-in-None
returns-in-None c = number_none _ c.in-None.is
