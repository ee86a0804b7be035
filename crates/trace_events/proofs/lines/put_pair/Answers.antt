-- `trace_events::lines::put_pair` meets its contract. Assumes nothing.
use native.Mathlib.Omega.{arith}
use Rattle.text.proofs.TextLaws.{decimal_length}
use Rattle.trace_events.proofs.LineLaws.{pair_stored}
use Rattle.trace_events.proofs.lines.put_pair.Goals as goal

pub put_decimal-k-requires : goal.put_decimal-k-requires
put_decimal-k-requires c = omega (arith, decimal_length c.args.a c.ranges.a.fits, decimal_length c.args.b c.ranges.b.fits)

pub put_byte-k-requires : goal.put_byte-k-requires
put_byte-k-requires c = omega (arith, decimal_length c.args.a c.ranges.a.fits, decimal_length c.args.b c.ranges.b.fits)

pub put_decimal-k-requires-2 : goal.put_decimal-k-requires-2
put_decimal-k-requires-2 c = omega (arith, decimal_length c.args.a c.ranges.a.fits, decimal_length c.args.b c.ranges.b.fits)

pub put_byte-requires : goal.put_byte-requires
put_byte-requires c = omega
    (arith, decimal_length c.args.a c.ranges.a.fits, decimal_length c.args.b c.ranges.b.fits)

pub returns : goal.returns
returns c =
    pair_stored c.args.a c.args.b _ _ _ _ _ _ _ _ _ _ c.ranges.a.fits c.ranges.b.fits
    c.put_decimal-k.ensures c.put_byte-k.ensures
    c.put_decimal-k-2.ensures c.put_byte.ensures
