use Prim.Native.Nat.{◌<◌}
use mathlib.Core.Path.{sym, ◌∙◌}
use native.Mathlib.Omega.{arith}
use Rattle.layout.specs.View.{place_count}
use Rattle.forms.proofs.CopyLaws.{topics_start, topics_more, topics_end, topic_fit}
use Rattle.forms.proofs.copy.topics_from.Goals as goal

pub loop-k-init : goal.loop-k-init
loop-k-init c = (omega arith, c.requires.0.to, topics_start _ _)

pub store_topic-requires : goal.store_topic-requires
store_topic-requires c =
    let l = c.loop-k in
    let h : l.k < place_count = omega arith in
    (l.invariant.1, (h, topic_fit _ c.requires.0.router l.k _ h c.load_topic.ensures))

pub loop-k-preserved : goal.loop-k-preserved
loop-k-preserved c =
    let l = c.loop-k in (
      omega arith,
      c.store_topic.auto.cells ∙ l.invariant.1,
      topics_more _ _ _ _ l.k _ l.invariant.2 c.store_topic.ensures c.load_topic.ensures,
    )

pub shape_of-table : goal.shape_of-table
shape_of-table c = c.loop-k.invariant.1 ∙ sym c.requires.0.to

pub returns : goal.returns
returns c =
    let l = c.loop-k in
    topics_end _ _ _ l.k _ l.invariant.0 (omega arith) l.invariant.2
