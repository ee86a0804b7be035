-- `gate::admit`: the four tests in 01's order, each return where the ones before it passed.
-- Assumes nothing.
use borrow.Author.Rules.{rules}
use Rattle.index.proofs.Flags.{flags}
use Rattle.rules.proofs.GateLaws.{gate-cases}
use Rattle.gate.proofs.admit.Goals as goal

pub returns-then-not-is_router : goal.returns-then-not-is_router
returns-then-not-is_router c = search (gate-cases, flags)

pub returns-then-not-fine : goal.returns-then-not-fine
returns-then-not-fine c = search (gate-cases, flags)

pub returns-then-room-lt-ACTION_ROOM : goal.returns-then-room-lt-ACTION_ROOM
returns-then-room-lt-ACTION_ROOM c = search (gate-cases, flags)

pub returns-then-time-load_clock : goal.returns-then-time-load_clock
returns-then-time-load_clock c = search (gate-cases, flags, rules)

pub returns : goal.returns
returns c = search (gate-cases, flags, rules)
