-- `effects::actions::put_numbers`: three stores side by side are the three numbers put there.
-- Assumes nothing.
use Rattle.effects.proofs.ActionLaws.{sets_three}
use lib.ListN.{length-set}
use native.Mathlib.Omega.{arith}
use Rattle.effects.proofs.actions.put_numbers.Goals as goal

pub bounds-actions-at-2 : goal.bounds-actions-at-2
bounds-actions-at-2 c = simp length-set (omega arith)

pub bounds-actions-at-3 : goal.bounds-actions-at-3
bounds-actions-at-3 c = simp length-set (omega arith)

pub returns : goal.returns
returns c = sets_three c.args.actions.now c.args.at c.args.kind c.args.id c.args.seconds
