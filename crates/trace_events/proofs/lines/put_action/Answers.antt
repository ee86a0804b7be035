-- `trace_events::lines::put_action` meets its contract. Assumes nothing.
use borrow.Author.Tests.{eq-eqb, ne_eqb}
use native.Mathlib.Omega.{arith}
use Rattle.text.proofs.TextLaws.{decimal_length}
use Rattle.trace_events.proofs.LineLaws.{graft_stored, prune_stored}
use Rattle.trace_events.proofs.lines.put_action.Goals as goal

pub put_decimal-k-requires : goal.put_decimal-k-requires
put_decimal-k-requires c = omega (arith, decimal_length c.args.id (omega (arith, c.ranges.id.fits)))

pub put_byte-requires : goal.put_byte-requires
put_byte-requires c = omega (arith, decimal_length c.args.id (omega (arith, c.ranges.id.fits)))

pub returns-then-kind-eq1 : goal.returns-then-kind-eq1
returns-then-kind-eq1 c =
    graft_stored c.args.kind c.args.id c.args.seconds _ _ _ _ _ _ _ _
    (eq-eqb _ _ c.if-kind-eq1.true)
    (omega (arith, c.ranges.id.fits))
    c.put_letter-k.ensures
    c.put_decimal-k.ensures c.put_byte.ensures

pub returns : goal.returns
returns c =
    prune_stored c.args.kind c.args.id c.args.seconds _ _ _ _ _ _
    (ne_eqb _ _ c.if-kind-eq1.false)
    c.put_letter-k-2.ensures c.put_pair.ensures
