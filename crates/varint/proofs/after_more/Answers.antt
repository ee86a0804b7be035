-- `varint::after_more` meets its contract: a number that passes the top is refused (`after_more_far`), one within it is read
-- (`after_more_near`), and higher groups that are 0 are overlong. Assumes nothing.
use Rattle.varint.proofs.GroupLaws.{after_more_far, after_more_near}
use Rattle.index.proofs.Kit.{arith}
use Rattle.varint.proofs.after_more.Goals as goal

pub returns-then-top-v : goal.returns-then-top-v
returns-then-top-v c = after_more_far _ _ _ _ _ c.in_ok-v.was c.if-v-eq0.false (omega arith)

pub returns-then-low-top : goal.returns-then-low-top
returns-then-low-top c = after_more_near _ _ _ _ _ c.in_ok-v.was c.if-v-eq0.false (omega arith)

pub returns : goal.returns
returns c = after_more_far _ _ _ _ _ c.in_ok-v.was c.if-v-eq0.false (omega arith)
