-- `deliveries::decay`: the gate's refusals, or what `decay_from` leaves.
-- Assumes nothing.
use borrow.Author.Rules.{rules}
use Rattle.deliveries.proofs.DecayLaws.{decay_refuses, decay_ready, decay_quiet}
use Rattle.deliveries.proofs.decay.Goals as goal

pub decay_from-requires : goal.decay_from-requires
decay_from-requires c = search (decay_ready, rules)

pub returns-in-Err : goal.returns-in-Err
returns-in-Err c = search decay_refuses

pub returns-in-Ok : goal.returns-in-Ok
returns-in-Ok c = search decay_quiet
