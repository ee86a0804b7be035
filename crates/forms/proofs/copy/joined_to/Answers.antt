use mathlib.Core.Path.{sym, ◌∙◌}
use native.Mathlib.Omega.{arith}
use Rattle.records.specs.Records.{topic_count}
use Rattle.forms.proofs.CopyLaws.{joined_start, joined_more, joined_end}
use Rattle.forms.proofs.copy.joined_to.Goals as goal

pub loop-t-init : goal.loop-t-init
loop-t-init c = (omega arith, c.requires.to, joined_start _ _)

pub loop-t-preserved : goal.loop-t-preserved
loop-t-preserved c =
    let l = c.loop-t in (
      omega arith,
      c.store_joined.auto.cells ∙ l.invariant.1,
      joined_more _ _ _ _ l.t _ l.invariant.2 c.store_joined.ensures c.load_joined.ensures,
    )

pub shape_of-rows : goal.shape_of-rows
shape_of-rows c = c.loop-t.invariant.1 ∙ sym c.requires.to

pub returns : goal.returns
returns c =
    let l = c.loop-t in
    joined_end _ _ _ l.t topic_count l.invariant.0 (omega arith) l.invariant.2
