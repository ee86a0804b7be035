use Prim.Native.Nat.{ℕ}
use native.Mathlib.Omega.{arith}
use mathlib.Core.Path.{refl, ap}
use mathlib.Core.Bool.{◌&&◌}
use lib.Dec.{ltb}
use Rattle.records.specs.Records.{slot_count}
use Rattle.index.proofs.Lists.{built_none, built_more}
use Rattle.sets.specs.Sets.{at}
use Rattle.pairs.proofs.PlaceLaws.{pairs_built}
use Rattle.pairs.proofs.best_by_pairs.Goals as goal

pub loop-s-init : goal.loop-s-init
loop-s-init c = built_none _ _ _ _ refl

pub loop-s-preserved : goal.loop-s-preserved
loop-s-preserved c =
    let a = c.args in
    let s = c.loop-s.s in
    built_more _ _ _ s c.loop-s.r _ (omega arith) c.loop-s.invariant
    (ap (λ (n : ℕ). at a.m.now s && ltb n a.k) c.rank_by.ensures)

pub returns : goal.returns
returns c =
    let a = c.args in
    pairs_built slot_count a.scores.now a.m.now a.order c.places-standing.result a.k c.loop-s.s c.loop-s.r
    c.places-standing.ensures
    (omega arith)
    c.loop-s.invariant
