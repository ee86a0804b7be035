use mathlib.Core.Path.{◌∙◌}
use native.Mathlib.Omega.{arith}
use borrow.Author.Rules.{rules}
use Rattle.score.proofs.ShareLaws.{sum_none, sum_more}
use Rattle.score.proofs.InputLaws.{slot_in}
use Rattle.score.proofs.ScoreLaws.{add_ready, topics_done}
use Rattle.peer_score.proofs.ConnectedLaws.{bare_topics}
use Rattle.peer_score.proofs.weights.topics_at.Goals as goal

pub returns-then-is_bare : goal.returns-then-is_bare
returns-then-is_bare c =
    let p = c.requires.at in
    topics_done _ _ (slot_in _ p.standing.router _ p.slot) 8 _ (omega arith) (omega arith)
    (bare_topics _ _ (c.is_bare.ensures c.if-is_bare.true))

pub loop-t-init : goal.loop-t-init
loop-t-init c = (search rules, sum_none _)

pub add-sum-requires : goal.add-sum-requires
add-sum-requires c =
    let p = c.requires.at in
    add_ready _ _
    (slot_in _ p.standing.router _ p.slot)
    _ _ _
    c.loop-t-test.true
    c.loop-t.invariant.1
    c.share_at.ensures.1

pub loop-t-preserved : goal.loop-t-preserved
loop-t-preserved c = (
  omega arith,
  c.add-sum.ensures
      ∙ sum_more _ _ _ _ c.loop-t.invariant.1 c.share_at.ensures.0,
)

pub returns : goal.returns
returns c =
    let l = c.loop-t in
    let p = c.requires.at in
    topics_done _ _ (slot_in _ p.standing.router _ p.slot) _ _ l.invariant.0 c.loop-t-test.false l.invariant.1
