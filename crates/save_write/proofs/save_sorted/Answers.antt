-- `save_write::save_sorted`: the keys are collected, sorted in the front of their list, and written. Assumes nothing.
use mathlib.Core.Path.{sym, ◌∙◌}
use native.Mathlib.Omega.{arith}
use lib.Seq.{length-take-le, length_front}
use Rattle.layout.specs.View.{state_of}
use Rattle.save_write.proofs.SaveLaws.{few_fit, sorted_front}
use Rattle.save_write.proofs.save_sorted.Goals as goal

pub collect_keys-n-requires : goal.collect_keys-n-requires
collect_keys-n-requires c = (c.requires.0, c.requires.1.0)

pub slice_bounds-sort-end : goal.slice_bounds-sort-end
slice_bounds-sort-end c =
    (few_fit c.collect_keys-n.ensures.0 c.collect_keys-n.auto.keys
    c.requires.1.0)

pub slice_bounds-sort-end-2 : goal.slice_bounds-sort-end-2
slice_bounds-sort-end-2 c = sym
    (length-take-le c.collect_keys-n.result c.collect_keys-n.new.keys
    (few_fit c.collect_keys-n.ensures.0 c.collect_keys-n.auto.keys
    c.requires.1.0))

pub sort-requires : goal.sort-requires
sort-requires c =
    let e = length-take-le c.collect_keys-n.result
    c.collect_keys-n.new.keys
    (few_fit c.collect_keys-n.ensures.0
    c.collect_keys-n.auto.keys
    c.requires.1.0) in
    let n = c.collect_keys-n.ensures.0 in
    let p = c.requires.1.1 in
    omega arith

pub slice_bounds-write_save-end : goal.slice_bounds-write_save-end
slice_bounds-write_save-end c =
    let n = c.collect_keys-n.result in
    let e = length_front c.collect_keys-n.new.keys
    c.sort.new.keys n c.sort.auto.keys in
    let l =
    (few_fit c.collect_keys-n.ensures.0
    c.collect_keys-n.auto.keys
    c.requires.1.0) in
    omega arith

pub slice_bounds-write_save-end-2 : goal.slice_bounds-write_save-end-2
slice_bounds-write_save-end-2 c =
    let n = c.collect_keys-n.result in
    let e = length_front c.collect_keys-n.new.keys
    c.sort.new.keys n
    c.sort.auto.keys in
    let l =
    (few_fit c.collect_keys-n.ensures.0
    c.collect_keys-n.auto.keys
    c.requires.1.0) in
    sym (length-take-le n _ (omega arith))

pub write_save-requires : goal.write_save-requires
write_save-requires c = (
  c.requires.0,
  sorted_front (state_of c.args.table.now) c.args.time
      c.collect_keys-n.result
      c.collect_keys-n.new.keys
      c.sort.new.keys
      (few_fit c.collect_keys-n.ensures.0
      c.collect_keys-n.auto.keys
      c.requires.1.0)
      c.collect_keys-n.ensures.1
      c.sort.auto.keys
      c.sort.ensures,
)

pub shape_of-list : goal.shape_of-list
shape_of-list c =
    length_front
    c.collect_keys-n.new.keys
    c.sort.new.keys
    c.collect_keys-n.result c.sort.auto.keys
    ∙ c.collect_keys-n.auto.keys

pub shape_of-spare : goal.shape_of-spare
shape_of-spare c = c.sort.auto.spare

pub shape_of-buf : goal.shape_of-buf
shape_of-buf c = c.write_save.auto.buf

pub returns : goal.returns
returns c = c.write_save.ensures
