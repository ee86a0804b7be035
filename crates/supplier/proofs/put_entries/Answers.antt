use Rattle.index.proofs.Kit.{refl, ◌∙◌, arith}
use Rattle.param_text.proofs.LineLaws.{lines_none, lines_more}
use Rattle.supplier.specs.Output.{entry_text_at}
use Rattle.supplier.proofs.TextLaws.{entries_all}
use Rattle.supplier.proofs.put_entries.Goals as goal

pub loop-i-init : goal.loop-i-init
loop-i-init c = (omega arith, refl, omega arith, lines_none (entry_text_at _) _ _)

pub loop-i-preserved : goal.loop-i-preserved
loop-i-preserved c =
    let l = c.loop-i in (
      omega arith,
      c.put_entry-next.auto.buf ∙ l.invariant.1,
      omega (arith, c.put_entry-next.ensures.1),
      lines_more (entry_text_at c.args.s.now) _ _ _ _ _ _ _ l.invariant.3
          c.put_entry-next.ensures.0,
    )

pub shape_of-buf : goal.shape_of-buf
shape_of-buf c = c.loop-i.invariant.1

pub returns : goal.returns
returns c = let l = c.loop-i in (entries_all _ _ _ _ _ _ l.invariant.0 c.loop-i-test.false l.invariant.3, omega arith)
