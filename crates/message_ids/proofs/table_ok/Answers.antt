-- `message_ids::table_ok` meets its contract. Assumes nothing.
use mathlib.Core.Path.{sym, ◌∙◌}
use Rattle.message_ids.proofs.TableLaws.{table_no, table_as}
use Rattle.message_ids.proofs.table_ok.Goals as goal

pub returns-then-not-ids_ok : goal.returns-then-not-ids_ok
returns-then-not-ids_ok c = table_no _ _ _ (sym c.ids_ok.ensures ∙ c.if-not-ids_ok.true)

pub returns : goal.returns
returns c = table_as _ _ _ (sym c.ids_ok.ensures ∙ c.if-not-ids_ok.false) _ c.numbers_ok.ensures
