-- `supplier::put_entry` meets its contract.
-- The kind has one to three digits, so the space, the sixteen digits and the end of the line have room.
-- Assumes nothing.
use Rattle.index.proofs.Kit.{arith}
use Rattle.supplier.proofs.TextLaws.{kind_length, entry_stored}
use Rattle.supplier.proofs.put_entry.Goals as goal

pub put_decimal-space-requires : goal.put_decimal-space-requires
put_decimal-space-requires c = omega (arith, kind_length c.wide-kind.result c.wide-kind.ensures.1)

pub put_byte-first-requires : goal.put_byte-first-requires
put_byte-first-requires c = omega (
  arith,
  kind_length c.wide-kind.result
      c.wide-kind.ensures.1,
)

pub put_eight-end-requires : goal.put_eight-end-requires
put_eight-end-requires c = (
  omega (
    arith,
    kind_length c.wide-kind.result
        c.wide-kind.ensures.1,
  ),
  omega arith,
)

pub put_byte-requires : goal.put_byte-requires
put_byte-requires c = omega (
  arith,
  kind_length
      c.wide-kind.result
      c.wide-kind.ensures.1,
)

pub returns : goal.returns
returns c =
    entry_stored c.args.s.now c.args.i
    c.wide-kind.result c.args.at _ _ _ _ _ _ _ _ _ c.requires.1 c.requires.2
    c.wide-kind.ensures.0
    c.wide-kind.ensures.1
    c.put_decimal-space.ensures c.put_byte-first.ensures
    c.put_eight-end.ensures.0
    c.put_eight-end.ensures.1 c.put_byte.ensures
