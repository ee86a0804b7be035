-- `supplier_entry::signed_of` meets its contract. Assumes nothing.
use Rattle.index.proofs.Kit.{◌∙◌, ◌-◌, arith}
use mir.Syntax.{w64}
use mir.Facts.{to_z_pos}
use Rattle.varint.proofs.Bits.{back_fits, back_is}
use Rattle.supplier_entry.proofs.EntryLaws.{twos_low, twos_high}
use Rattle.supplier_entry.proofs.signed_of.Goals as goal

pub overflow_sub-result-else-u-lt9223372036854775808 : goal.overflow_sub-result-else-u-lt9223372036854775808
overflow_sub-result-else-u-lt9223372036854775808 c = back_fits (18446744073709551615 - c.args.u) (omega arith)

pub returns-then-u-lt9223372036854775808 : goal.returns-then-u-lt9223372036854775808
returns-then-u-lt9223372036854775808 c = to_z_pos w64 c.if-u-lt9223372036854775808.true ∙ twos_low c.args.u c.if-u-lt9223372036854775808.true

pub returns-else-u-lt9223372036854775808 : goal.returns-else-u-lt9223372036854775808
returns-else-u-lt9223372036854775808 c = back_is (18446744073709551615 - c.args.u) (omega arith) ∙ twos_high c.args.u c.if-u-lt9223372036854775808.false
