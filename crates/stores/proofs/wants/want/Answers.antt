-- `stores::wants::want`: `want_by` with as many cells as numbers. Assumes nothing.
use mathlib.Core.Path.{sym}
use lib.Seq.{length-take-le}
use Rattle.stores.proofs.wants.want.Goals as goal

pub slice_bounds-want_by-end : goal.slice_bounds-want_by-end
slice_bounds-want_by-end c = sym (length-take-le _ _ c.requires.1.0)

pub want_by-requires : goal.want_by-requires
want_by-requires c =
    let p = c.requires in
    (p.0, (p.1.0, (length-take-le _ _ p.1.0, p.1.1)))
