use Rattle.index.proofs.Kit.{arith, rules}
use lib.ListN.{get_or}
use lib.IntN.{pos}
use mir.Syntax.{w64}
use mir.Val.{SFits}
use mir.Facts.{to_z-of_z}
use Rattle.supplier_params.proofs.ExportLaws.{asks, put_none, put_more, put_all}
use Rattle.supplier_params.proofs.put.Goals as goal

pub loop-i-init : goal.loop-i-init
loop-i-init c = put_none _ _

pub export-requires : goal.export-requires
export-requires c =
    let l = c.loop-i in
    let f : SFits w64 (get_or c.args.all.numbers l.i (pos 0)) = search rules in
    rw (to_z-of_z f) (
      asks c.args.all.numbers l.i _ c.loop-i-test.true
          (c.requires.1 l.i c.loop-i-test.true) c.form_of.ensures,
      omega (arith, l.invariant.same),
    )

pub loop-i-preserved : goal.loop-i-preserved
loop-i-preserved c =
    let l = c.loop-i in
    let f : SFits w64 (get_or c.args.all.numbers l.i (pos 0)) = search rules in
    put_more c.args.all.numbers l.i _ l.buf _ _ c.loop-i-test.true l.invariant
    c.form_of.ensures c.export.auto.buf
    (rw (to_z-of_z f) at c.export.ensures)

pub shape_of-buf : goal.shape_of-buf
shape_of-buf c = c.loop-i.invariant.same

pub returns : goal.returns
returns c = let l = c.loop-i in put_all c.args.all.numbers l.i _ _ c.loop-i-test.false l.invariant
