-- `replies::place_of`: the rows rise, so those below the place that is found have smaller numbers, and the others do not.
use Prim.Native.Nat.{ℕ}
use mathlib.Core.List.{List}
use mathlib.Core.Path.{sym}
use lib.Dec.{ltb}
use lib.ListN.{get_or}
use Rattle.std.proofs.Common.{rules}
use Rattle.std.proofs.lemmas.List.Sorted.{IsPartitionPoint-from_clause}
use Rattle.replies.proofs.CallLaws.{rows_fit, parted_rows, placed_point}
use Rattle.replies.proofs.place_of.Goals as goal

pub slice_bounds-partition_point-end : goal.slice_bounds-partition_point-end
slice_bounds-partition_point-end c = rows_fit _ _ c.requires c.as_chunks.ensures.front_len

pub returns : goal.returns
returns c =
    let a = c.args in
    let s = c.requires in
    let rows = c.as_chunks.result.0.now in
    let f = c.as_chunks.ensures.front in
    let e = sym (rows_fit a.cells.now rows s c.as_chunks.ensures.front_len) in
    let p = parted_rows a.cells.now rows a.n s f e in
    placed_point a.cells.now rows a.n s f e _ c.partition_point.ensures.bound
    (IsPartitionPoint-from_clause (λ (y : List ℕ). ltb (get_or y 0 0) a.n) _ _ c.partition_point.ensures.partitioned p
    (λ x r q k. search rules))
