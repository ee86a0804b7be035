-- `trace_events::lines::put_reply` meets its contract. Assumes nothing.
use native.Mathlib.Omega.{arith}
use Rattle.trace_events.proofs.LineLaws.{reply_stored}
use Rattle.trace_events.proofs.lines.put_reply.Goals as goal

pub put_actions-k-requires : goal.put_actions-k-requires
put_actions-k-requires c = (omega arith, omega arith)

pub returns : goal.returns
returns c = (
  reply_stored
      c.args.a _ _ _ _ _ _ _ _ _ _
      c.number_of.ensures
      c.actions_of-n.ensures
      c.put_pair-k.ensures.0
      c.put_actions-k.ensures.0 c.put_score.ensures.0,
  omega arith,
)
