-- `varint::signed` meets its contract.  Assumes nothing.
use Rattle.index.proofs.Kit.{sym, ap, ◌∙◌, Bool}
use mir.Syntax.{w64}
use mir.Facts.{to_z_pos}
use Rattle.varint.specs.Codes.{signed_of}
use Rattle.varint.proofs.Bits.{back_fits, back_is}
use Rattle.varint.proofs.signed.Goals as goal

pub overflow_sub-result : goal.overflow_sub-result
overflow_sub-result c = back_fits _ c.requires

pub returns-then-below : goal.returns-then-below
returns-then-below c = back_is _ c.requires ∙ ap (λ (b : Bool). signed_of b c.args.m) (sym c.if-below.true)

pub returns-else-below : goal.returns-else-below
returns-else-below c = to_z_pos w64 c.requires ∙ ap (λ (b : Bool). signed_of b c.args.m) (sym c.if-below.false)
