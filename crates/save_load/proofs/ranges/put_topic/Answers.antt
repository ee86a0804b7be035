-- `save_load::ranges::put_topic` meets its contract. Assumes nothing.
use native.Mathlib.Omega.{arith}
use lib.ListN.{length-set}
use Rattle.save_load.proofs.RangeLaws.{five}
use Rattle.save_load.proofs.ranges.put_topic.Goals as goal

pub bounds-most-at-2 : goal.bounds-most-at-2
bounds-most-at-2 c = simp length-set (omega arith)

pub bounds-most-at-3 : goal.bounds-most-at-3
bounds-most-at-3 c = simp length-set (omega arith)

pub bounds-most-at-4 : goal.bounds-most-at-4
bounds-most-at-4 c = simp length-set (omega arith)

pub bounds-most-at-5 : goal.bounds-most-at-5
bounds-most-at-5 c = simp length-set (omega arith)

pub shape_of-most : goal.shape_of-most
shape_of-most c = simp length-set

pub returns : goal.returns
returns c = five c.args.most.now c.args.at c.args.cap2 c.args.cap3 1000000000000 1000000 3600000
