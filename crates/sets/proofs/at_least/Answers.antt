use native.Mathlib.Omega.{arith}
use mathlib.Core.Path.{refl, ◌∙◌}
use Rattle.sets.specs.Sets.{from}
use Rattle.index.proofs.Lists.{built_none, built_more, built_done}
use Rattle.sets.proofs.WalkLaws.{from_at, from_length}
use Rattle.sets.proofs.at_least.Goals as goal

pub loop-i-init : goal.loop-i-init
loop-i-init c = (c.requires, built_none _ _ _ _ refl)

pub bounds-scores-i : goal.bounds-scores-i
bounds-scores-i c = let l = c.loop-i.invariant.0 in omega arith

pub loop-i-preserved : goal.loop-i-preserved
loop-i-preserved c =
    let l = c.loop-i in
    (l.invariant.0, built_more _ _ _ l.i l.r _ (omega arith) l.invariant.1 refl)

pub returns : goal.returns
returns c =
    let a = c.args in
    let l = c.loop-i in
    let scores = a.scores.now in
    c.pack.ensures
    ∙ built_done _ _ _ l.i l.r (from a.x scores) (omega arith) l.invariant.1
    (from_length a.x scores ∙ l.invariant.0)
    (λ k h. from_at a.x scores k (let e = l.invariant.0 in omega arith))
