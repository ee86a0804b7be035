-- `trace_step::alone`: a connect whose list of groups has the one.
use Rattle.trace_step.proofs.alone.Goals as goal

pub returns : goal.returns
returns c = c.connect.ensures
