-- `gate::see_sender`: the record as loaded, and one score that is held to both limits.
-- Assumes nothing.
use borrow.Author.Rules.{rules}
use Rattle.gate.proofs.StandingLaws.{graylist_most, sender_of}
use Rattle.gate.proofs.see_sender.Goals as goal

pub is_below-requires : goal.is_below-requires
is_below-requires c = search (graylist_most, rules)

pub returns : goal.returns
returns c = search sender_of
