use native.Mathlib.Omega.{arith}
use borrow.Author.Rules.{rules}
use mathlib.Core.Path.{refl}
use Rattle.words.specs.Words.{word_count}
use Rattle.index.proofs.Lists.{built_none, built_more}
use Rattle.sets.proofs.WordSets.{both_words}
use Rattle.sets.proofs.both.Goals as goal

pub loop-i-init : goal.loop-i-init
loop-i-init c = (search rules, search rules, built_none _ _ _ _ refl)

pub loop-i-preserved : goal.loop-i-preserved
loop-i-preserved c =
    let l = c.loop-i in
    (l.invariant.0, l.invariant.1, built_more _ _ _ l.i l.r _ (omega arith) l.invariant.2 refl)

pub returns : goal.returns
returns c =
    let a = c.args in
    let l = c.loop-i in
    both_words a.a a.b l.r word_count l.invariant.0 l.invariant.1 l.invariant.2.len
    (λ k h. l.invariant.2.below k (omega arith))
