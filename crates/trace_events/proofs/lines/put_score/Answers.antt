-- `trace_events::lines::put_score` meets its contract. Assumes nothing.
use native.Mathlib.Omega.{arith}
use Rattle.trace_events.proofs.LineLaws.{no_score, stored_none, score_stored}
use Rattle.trace_events.proofs.lines.put_score.Goals as goal

pub returns-in_default : goal.returns-in_default
returns-in_default c = let e = no_score c.args.a c.in_default.not-Scored in (rw e (stored_none _ _), omega arith)

pub returns : goal.returns
returns c = score_stored c.args.a _ _ _ _ _
    c.in-Scored.is c.put_why.ensures
