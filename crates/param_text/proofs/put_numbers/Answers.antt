use Rattle.index.proofs.Kit.{refl, ◌∙◌, rules, arith}
use lib.ListN.{get_or}
use lib.IntN.{pos}
use mir.Syntax.{w64}
use mir.Val.{SFits}
use mir.Facts.{to_z-of_z}
use Rattle.param_text.specs.Lines.{line_at}
use Rattle.param_text.proofs.LineLaws.{lines_none, lines_more, lines_all}
use Rattle.param_text.proofs.put_numbers.Goals as goal

pub loop-i-init : goal.loop-i-init
loop-i-init c = (omega arith, refl, omega arith, lines_none (line_at c.args.numbers) _ _)

pub loop-i-preserved : goal.loop-i-preserved
loop-i-preserved c =
    let l = c.loop-i in
    let f : SFits w64 (get_or c.args.numbers l.i (pos 0)) =
    search rules in
    let s = c.put_line-next.ensures in (
      omega arith,
      c.put_line-next.auto.buf ∙ l.invariant.1,
      omega arith,
      lines_more (line_at c.args.numbers) _ _
          c.args.buf.now _ _ _ _ l.invariant.3
          (rw (to_z-of_z f) at s.0),
    )

pub returns : goal.returns
returns c = let l = c.loop-i in (lines_all _ _ _ _ _ _ l.invariant.0 c.loop-i-test.false l.invariant.3, omega arith)
