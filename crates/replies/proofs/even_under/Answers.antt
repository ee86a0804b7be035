-- `replies::even_under`: no lane borrows from its neighbour.
use Prim.Native.Nat.{◌≤◌}
use native.Mathlib.Omega.{arith}
use lib.Bits.{bit_and, and_le_r}
use borrow.Author.Tests.{eqb-true}
use Rattle.replies.proofs.LimitLaws.{evens, guards, even_low, under_evens}
use Rattle.replies.proofs.even_under.Goals as goal

pub overflow_add-result : goal.overflow_add-result
overflow_add-result c = let h = and_le_r c.args.l 17737253917028415 in omega arith

pub overflow_sub-result : goal.overflow_sub-result
unfolding evens guards
overflow_sub-result c =
    let h : bit_and c.args.x 17737253917028415 ≤ 18018797629997120 = even_low 5 c.args.x in
    omega arith

pub returns : goal.returns
unfolding evens guards
returns c = λ t. under_evens 5 c.args.x c.args.l (eqb-true _ _ t)
