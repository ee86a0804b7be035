-- `varint::code_of` meets its contract.  Assumes nothing.
use Rattle.index.proofs.Kit.{arith, sym, ◌∙◌}
use mir.Facts.{to_z-of_z}
use Rattle.varint.proofs.CodeLaws.{code_neg, code_pos}
use Rattle.varint.proofs.code_of.Goals as goal

pub returns-then-is_negative : goal.returns-then-is_negative
returns-then-is_negative c = let f = c.ranges.n in
    omega (
      arith,
      rw (to_z-of_z f) at c.half-m.ensures.0,
      code_neg c.args.n (rw (to_z-of_z f) at (sym c.if-is_negative.true ∙ c.is_negative.ensures)),
    )

pub returns-else-is_negative : goal.returns-else-is_negative
returns-else-is_negative c = let f = c.ranges.n in
    omega (
      arith,
      rw (to_z-of_z f) at c.half-m.ensures.0,
      code_pos c.args.n (rw (to_z-of_z f) at (sym c.if-is_negative.false ∙ c.is_negative.ensures)),
    )
