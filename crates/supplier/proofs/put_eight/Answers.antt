use Rattle.index.proofs.Kit.{◌+◌, refl, ◌∙◌, arith}
use mathlib.Core.List.{[], ◌∷◌}
use lib.ListN.{get_or}
use Rattle.supplier.proofs.TextLaws.{hex_length, eight_none, eight_more, eight_all}
use Rattle.supplier.proofs.put_eight.Goals as goal

pub loop-k-init : goal.loop-k-init
loop-k-init c = let a = c.args in (omega arith, refl, omega arith, eight_none a.s.now a.from _ _)

pub loop-k-preserved : goal.loop-k-preserved
loop-k-preserved c =
    let l = c.loop-k in
    let t = eight_more c.args.s.now c.args.from l.k c.args.at _ _ _ _ _ c.requires.1
    c.loop-k-test.true l.invariant.3 c.put_hex-next.ensures in (
      omega arith,
      c.put_hex-next.auto.buf ∙ l.invariant.1,
      omega (arith, c.put_hex-next.ensures.0, hex_length (get_or c.args.s.now (c.args.from + l.k) 0 ∷ [])),
      t,
    )

pub shape_of-buf : goal.shape_of-buf
shape_of-buf c = c.loop-k.invariant.1

pub returns : goal.returns
returns c = let l = c.loop-k in
    eight_all _ _ l.k _ _ _ _ c.requires.1 l.invariant.0 c.loop-k-test.false l.invariant.3
