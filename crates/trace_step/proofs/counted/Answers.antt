-- `trace_step::counted`: too many groups, a number that cannot be read, or the connect with what was read behind the count.
use borrow.Author.Rules.{rules}
use native.Mathlib.Omega.{arith}
use mathlib.Core.Path.{sym}
use lib.Seq.{length-take-le}
use Rattle.trace_step.proofs.ReplayLaws.{counted_many, counted_unread, counted_called}
use Rattle.trace_step.proofs.counted.Goals as goal

pub returns-then-count-gt-GROUP_MOST : goal.returns-then-count-gt-GROUP_MOST
returns-then-count-gt-GROUP_MOST c = counted_many c.args.s.now c.args.v.now c.args.at _ _ c.if-count-gt-GROUP_MOST.true

pub read_numbers-requires : goal.read_numbers-requires
read_numbers-requires c = let h = c.if-count-gt-GROUP_MOST.false in omega arith

pub returns-in-Err : goal.returns-in-Err
returns-in-Err c =
    let u = c.read_numbers in
    counted_unread c.args.s.now c.args.v.now c.args.at c.if-count-gt-GROUP_MOST.false
    u.result _ u.ensures.0 _ _ _ _ c.in-Err.is c.unread.ensures

pub offset_bounds-w-n : goal.offset_bounds-w-n
offset_bounds-w-n c = let h = c.if-count-gt-GROUP_MOST.false in search rules

pub bounds-w-n : goal.bounds-w-n
bounds-w-n c = let h = c.if-count-gt-GROUP_MOST.false in omega arith

pub overflow_add-size : goal.overflow_add-size
overflow_add-size c = let h = c.if-count-gt-GROUP_MOST.false in search rules

pub offset_bounds-w-n-2 : goal.offset_bounds-w-n-2
offset_bounds-w-n-2 c = let h = c.if-count-gt-GROUP_MOST.false in search rules

pub bounds-w-n-2 : goal.bounds-w-n-2
bounds-w-n-2 c = let h = c.if-count-gt-GROUP_MOST.false in omega arith

pub slice_bounds-w-end : goal.slice_bounds-w-end
slice_bounds-w-end c = let h = c.if-count-gt-GROUP_MOST.false in omega arith

pub slice_bounds-connect-end : goal.slice_bounds-connect-end
slice_bounds-connect-end c = let h = c.if-count-gt-GROUP_MOST.false in
    sym (length-take-le _ _ (omega arith))

pub returns : goal.returns
returns c =
    let u = c.read_numbers in
    counted_called c.args.s.now c.args.v.now c.args.at
    c.if-count-gt-GROUP_MOST.false u.result _
    u.ensures.0 _ _ _ _ _ _ c.in-Ok.is
    c.connect.ensures
