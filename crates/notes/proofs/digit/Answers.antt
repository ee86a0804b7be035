use Rattle.notes.proofs.DigitLaws.{shifted}
use native.Mathlib.Omega.{arith}
use Rattle.notes.proofs.digit.Goals as goal

pub returns : goal.returns
returns c = (shifted c.args.ages c.args.k, omega arith)
