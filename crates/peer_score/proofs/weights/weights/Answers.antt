use Rattle.index.proofs.Kit.{◌*◌, ◌<◌, refl, ◌∙◌, arith}
use mathlib.Core.Path.{ap₂}
use Prim.Native.Nat.{ℕ}
use lib.Dec.{lit<}
use Rattle.index.proofs.Lists.{built_none, built_more}
use Rattle.records.specs.Records.{topic_count}
use Rattle.peer_score.proofs.WeightLaws.{weight_most}
use Rattle.peer_score.proofs.weights.weights.Goals as goal

pub loop-t-init : goal.loop-t-init
loop-t-init c = built_none _ _ _ _ refl

pub load_param-requires : goal.load_param-requires
load_param-requires c = record { size = c.requires.standing.size; topic = c.loop-t-test.true; param = lit< tt }

pub load_param-requires-in-loop-t : goal.load_param-requires-in-loop-t
load_param-requires-in-loop-t c =
    let p = c.requires in
    record { size = p.standing.size; topic = c.loop-t-test.true; param = p.param }

pub times-requires : goal.times-requires
times-requires c =
    let p = c.requires in
    let t = c.loop-t.t in
    let l : t < topic_count = c.loop-t-test.true in
    (omega (arith, c.load_param.ensures, weight_most _ p.standing t l), omega (arith, c.load_param-in-loop-t.ensures, p.most t l))

pub loop-t-preserved : goal.loop-t-preserved
loop-t-preserved c =
    let l = c.loop-t in
    built_more _ _ _ l.t l.r _ (omega arith) l.invariant
    (c.times.ensures ∙ ap₂ (λ (x y : ℕ). x * y) c.load_param.ensures c.load_param-in-loop-t.ensures)

pub returns : goal.returns
returns c k h = c.loop-t.invariant.below k (omega arith)
