-- `host_messages::names` meets its contract. Assumes nothing.
use Rattle.host_messages.proofs.MessageLaws.{names_told}
use Rattle.host_messages.proofs.names.Goals as goal

pub returns-then-names_ok : goal.returns-then-names_ok
returns-then-names_ok c = names_told _ _ _ _ c.names_ok.ensures c.if-names_ok.true c.packed.ensures

pub returns-else-names_ok : goal.returns-else-names_ok
returns-else-names_ok c = names_told _ _ _ _ c.names_ok.ensures c.if-names_ok.false c.packed-else-names_ok.ensures
