-- `supplier_entry::whole` meets its contract. Assumes nothing.
use Rattle.std.proofs.Common.{Some}
use borrow.Author.Rules.{rules}
use mathlib.Core.Path.{refl, ap, ◌∙◌}
use mir.Facts.{to_z-of_z}
use Rattle.limits.proofs.LimitLaws.{lies_between}
use Rattle.supplier_entry.proofs.EntryLaws.{whole_in, whole_out}
use Rattle.supplier_entry.proofs.whole.Goals as goal

pub returns-then-limit-z : goal.returns-then-limit-z
returns-then-limit-z c =
    ap Some (to_z-of_z c.ranges.z)
    ∙ whole_in c.args.limit c.args.z _
    (lies_between c.args.z c.args.limit _ c.ranges.z (search rules) (search rules) refl)
    c.if-limit-z.true

pub returns-else-limit-z : goal.returns-else-limit-z
returns-else-limit-z c =
    whole_out c.args.limit c.args.z _
    (lies_between c.args.z c.args.limit _ c.ranges.z (search rules) (search rules) refl)
    c.if-limit-z.false
