-- `credits::credit` meets its contract: what `amounts` says is added. Assumes nothing.
use mathlib.Core.Path.{ap}
use Rattle.credits.specs.Credits.{added_of, credited_of}
use Rattle.credits.proofs.credit.Goals as goal

pub returns : goal.returns
unfolding credited_of
returns c = ap (added_of c.args.r.now) c.amounts-a.ensures.0
