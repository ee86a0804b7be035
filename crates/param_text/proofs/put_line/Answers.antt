-- `param_text::put_line` meets its contract. Assumes nothing.
use Rattle.index.proofs.Kit.{arith}
use mir.Facts.{to_z-of_z}
use Rattle.param_text.proofs.LineLaws.{fits_length, line_stored}
use Rattle.param_text.proofs.put_line.Goals as goal

pub put_signed-last-requires : goal.put_signed-last-requires
put_signed-last-requires c = let f = c.ranges.n in rw (to_z-of_z f) (omega (arith, fits_length c.args.n f))

pub put_byte-requires : goal.put_byte-requires
put_byte-requires c =
    let f = c.ranges.n in
    omega (
      arith,
      fits_length c.args.n f,
      rw (to_z-of_z f) at c.put_signed-last.ensures.0,
    )

pub returns : goal.returns
returns c = line_stored _ _ _ _ _ _ _ c.ranges.n
    c.put_signed-last.ensures c.put_byte.ensures
