use Rattle.index.proofs.Kit.{ℕ, sym, ◌∙◌, arith}
use Rattle.index.proofs.Index.{iter_none, iter_more, iter_done}
use Rattle.layout.specs.View.{state_of}
use Rattle.records.specs.Records.{State}
use Rattle.effects.specs.Effects.{left_topic}
use Rattle.effects.proofs.connections.leave_topics.Goals as goal

abbrev leave : ℕ → ℕ → State → State
leave slot t u = left_topic u slot t

pub loop-t-init : goal.loop-t-init
loop-t-init c = (omega arith, c.requires.size, sym (iter_none _ _))

pub loop-t-preserved : goal.loop-t-preserved
unfolding left_topic
loop-t-preserved c =
    let a = c.args in
    let l = c.loop-t in
    let k = c.unsubscribe_slot in (
      omega arith,
      k.auto.table ∙ l.invariant.1,
      iter_more (leave a.slot) (state_of a.table.now) l.t (state_of l.table) _ l.invariant.2 k.ensures,
    )

pub shape_of-table : goal.shape_of-table
shape_of-table c = c.loop-t.invariant.1 ∙ sym c.requires.size

pub returns : goal.returns
returns c =
    let a = c.args in
    let l = c.loop-t in
    iter_done (leave a.slot) (state_of a.table.now) 8 l.t _ (omega arith) (omega arith) l.invariant.2
