use mathlib.Core.Path.{sym, ◌∙◌}
use native.Mathlib.Omega.{arith}
use Rattle.layout.specs.View.{place_count}
use Rattle.forms.proofs.CopyLaws.{topics_start, topics_more, topics_end}
use Rattle.forms.proofs.copy.topics_to.Goals as goal

pub loop-k-init : goal.loop-k-init
loop-k-init c = (omega arith, c.requires.to, topics_start _ _)

pub loop-k-preserved : goal.loop-k-preserved
loop-k-preserved c =
    let l = c.loop-k in (
      omega arith,
      c.store_topic.auto.cells ∙ l.invariant.1,
      topics_more _ _ _ _ l.k _ l.invariant.2 c.store_topic.ensures c.load_topic.ensures.0,
    )

pub shape_of-rows : goal.shape_of-rows
shape_of-rows c = c.loop-k.invariant.1 ∙ sym c.requires.to

pub returns : goal.returns
returns c =
    let l = c.loop-k in
    topics_end _ _ _ l.k place_count l.invariant.0 (omega arith) l.invariant.2
