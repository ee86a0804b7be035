-- `param_text::put_head` meets its contract. Assumes nothing.
use Rattle.index.proofs.Kit.{rules, arith}
use Rattle.text.proofs.TextLaws.{decimal_length}
use Rattle.param_text.proofs.LineLaws.{head_stored}
use Rattle.param_text.proofs.put_head.Goals as goal

pub put_decimal-space-requires : goal.put_decimal-space-requires
put_decimal-space-requires c = omega (arith, decimal_length c.args.number c.ranges.number.fits, decimal_length c.args.value c.ranges.value.fits)

pub put_byte-second-requires : goal.put_byte-second-requires
put_byte-second-requires c = omega (arith, decimal_length c.args.number c.ranges.number.fits, decimal_length c.args.value c.ranges.value.fits)

pub put_decimal-end-requires : goal.put_decimal-end-requires
put_decimal-end-requires c = omega (arith, decimal_length c.args.number c.ranges.number.fits, decimal_length c.args.value c.ranges.value.fits)

pub put_byte-requires : goal.put_byte-requires
put_byte-requires c = omega
    (arith, decimal_length c.args.number c.ranges.number.fits, decimal_length c.args.value c.ranges.value.fits)

pub returns : goal.returns
returns c = (
  search (head_stored, rules),
  omega (
    arith,
    decimal_length c.args.number c.ranges.number.fits,
    decimal_length c.args.value c.ranges.value.fits,
  ),
)
