-- `leaving::leave_from`: 11 of a topic that is not joined, else the walk, the flag and the clock.
use native.Mathlib.Omega.{arith}
use Rattle.index.proofs.Flags.{failed, passed}
use Rattle.rules.specs.Step.{leave_reply}
use Rattle.rules.proofs.StepLaws.{gives_then, gives_else}
use Rattle.rules.proofs.EndLaws.{gives_ignored}
use Rattle.gate.proofs.StandingLaws.{sizes}
use Rattle.leaving.proofs.LeaveLaws.{gives_left}
use Rattle.leaving.proofs.leave_from.Goals as goal

pub returns-then-not-is_joined : goal.returns-then-not-is_joined
unfolding leave_reply
returns-then-not-is_joined c = search (gives_else, gives_ignored, failed)

pub end_after-requires : goal.end_after-requires
end_after-requires c =
    let g = sizes _ c.requires.ready.standing.router in
    record { latest = c.requires.ready.latest; seconds = omega (arith, c.load_magnitude-seconds.ensures, g.leave) }

pub returns : goal.returns
unfolding leave_reply
returns c = search (gives_then, gives_left, passed)
