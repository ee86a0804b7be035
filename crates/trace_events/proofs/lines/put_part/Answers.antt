-- `trace_events::lines::put_part` meets its contract. Assumes nothing.
use native.Mathlib.Omega.{arith}
use mir.Facts.{to_z-of_z}
use Rattle.trace_events.proofs.LineLaws.{fits_length, part_stored}
use Rattle.trace_events.proofs.lines.put_part.Goals as goal

pub put_signed-k-requires : goal.put_signed-k-requires
put_signed-k-requires c = let f = c.ranges.n in rw (to_z-of_z f) (omega (arith, fits_length _ f))

pub put_byte-requires : goal.put_byte-requires
put_byte-requires c =
    let f = c.ranges.n in
    omega (arith, fits_length _ f, rw (to_z-of_z f) at c.put_signed-k.ensures.0)

pub returns : goal.returns
returns c =
    part_stored c.args.n c.args.after _ _ _ _ _ _ c.ranges.n
    c.put_signed-k.ensures c.put_byte.ensures
