use native.Mathlib.Omega.{arith}
use mir.Syntax.{w64}
use mir.Val.{Fits}
use borrow.Author.Rules.{rules}
use mathlib.Core.Path.{refl}
use lib.ListN.{get_or}
use Rattle.words.specs.Words.{word_count}
use Rattle.index.proofs.Lists.{built_none, built_more}
use Rattle.sets.proofs.WordSets.{except_words}
use Rattle.sets.proofs.except.Goals as goal

pub loop-i-init : goal.loop-i-init
loop-i-init c = (search rules, search rules, built_none _ _ _ _ refl)

pub loop-i-preserved : goal.loop-i-preserved
loop-i-preserved c =
    let l = c.loop-i in
    (l.invariant.0, l.invariant.1, built_more _ _ _ l.i l.r _ (omega arith) l.invariant.2 refl)

pub returns : goal.returns
returns c =
    let a = c.args in
    let l = c.loop-i in
    except_words a.a a.b l.r word_count l.invariant.0 l.invariant.1 l.invariant.2.len
    (λ k h. l.invariant.2.below k (omega arith))
    (λ k. let f : Fits w64 (get_or a.b k 0) = search rules in f.fits)
