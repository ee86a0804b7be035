-- `gossip_gate::admit`: the tests in their order, each return where the ones before it passed.
-- Assumes nothing.
use borrow.Author.Rules.{rules}
use Rattle.index.proofs.Flags.{flags}
use Rattle.gossip_gate.proofs.CaseLaws.{gate-cases}
use Rattle.gossip_gate.proofs.admit.Goals as goal

pub returns-then-not-is_router : goal.returns-then-not-is_router
returns-then-not-is_router c = search (gate-cases, flags)

pub is_gossip-requires : goal.is_gossip-requires
is_gossip-requires c = search (gate-cases, flags, rules)

pub returns-then-not-is_gossip : goal.returns-then-not-is_gossip
returns-then-not-is_gossip c = search (gate-cases, flags)

pub returns-then-not-fine : goal.returns-then-not-fine
returns-then-not-fine c = search (gate-cases, flags)

pub returns-then-not-fits : goal.returns-then-not-fits
returns-then-not-fits c = search (gate-cases, flags)

pub returns-then-time-load_clock : goal.returns-then-time-load_clock
returns-then-time-load_clock c = search (gate-cases, flags, rules)

pub returns : goal.returns
returns c = search (gate-cases, flags, rules)
