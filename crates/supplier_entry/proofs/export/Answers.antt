-- `supplier_entry::export` meets its contract. Assumes nothing.
use Rattle.index.proofs.Kit.{ap, ◌∙◌, arith, ℕ}
use mathlib.Core.List.{◌∷◌}
use lib.ListN.{length-set}
use lib.Seq.{sets}
use Rattle.supplier_entry.specs.Bytes.{low_bytes}
use mir.Facts.{to_z-of_z}
use Rattle.supplier_entry.proofs.ByteLaws.{entry_put}
use Rattle.supplier_entry.proofs.export.Goals as goal

pub content_of-u-requires : goal.content_of-u-requires
content_of-u-requires c = rw (to_z-of_z c.ranges.z) c.requires.0

pub put_low-requires : goal.put_low-requires
put_low-requires c = simp length-set (omega arith)

pub shape_of-buf : goal.shape_of-buf
shape_of-buf c = c.put_low.auto.buf ∙ simp length-set

pub returns : goal.returns
returns c =
    let e = rw (to_z-of_z c.ranges.z) at c.content_of-u.ensures in
    entry_put c.args.buf.now _ c.args.at c.args.form.kind _ c.put_low.ensures
    ∙ ap (λ (u : ℕ). sets c.args.buf.now c.args.at (c.args.form.kind ∷ low_bytes 8 u)) e
