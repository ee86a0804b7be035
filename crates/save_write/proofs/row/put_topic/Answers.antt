-- `save_write::row::put_topic`: five numbers one after the other. Assumes nothing.
use native.Mathlib.Omega.{arith}
use lib.ListN.{length-set}
use Rattle.save_write.proofs.FillLaws.{topic_is}
use Rattle.save_write.proofs.row.put_topic.Goals as goal

pub bounds-row-at-2 : goal.bounds-row-at-2
bounds-row-at-2 c = simp length-set (omega arith)

pub bounds-row-at-3 : goal.bounds-row-at-3
bounds-row-at-3 c = simp length-set (omega arith)

pub bounds-row-at-4 : goal.bounds-row-at-4
bounds-row-at-4 c = simp length-set (omega arith)

pub bounds-row-at-5 : goal.bounds-row-at-5
bounds-row-at-5 c = simp length-set (omega arith)

pub shape_of-row : goal.shape_of-row
shape_of-row c = simp length-set

pub returns : goal.returns
returns c = topic_is _ _ _ _
