-- `layout::past_word`: all its slots are past, none, or those from a bit on.
use native.Mathlib.Omega.{arith}
use Rattle.layout.proofs.EndLaws.{past_all, past_none, past_some}
use Rattle.layout.proofs.past_word.Goals as goal

pub returns-then-used-first : goal.returns-then-used-first
returns-then-used-first c = past_all _ _ _

pub returns-then-used-first-gt63 : goal.returns-then-used-first-gt63
returns-then-used-first-gt63 c e = past_none _ _ _ (omega arith) (omega arith)

pub returns : goal.returns
returns c = past_some _ _ _ (omega arith)
