use native.Mathlib.Omega.{arith}
use borrow.Author.Rules.{rules}
use mathlib.Core.Path.{refl}
use Rattle.index.proofs.Lists.{built_none, built_more, built_done}
use Rattle.words.specs.Words.{bits_of}
use Rattle.words.proofs.WideLaws.{bits_of_length}
use Rattle.words.proofs.flags.unpack.Goals as goal

pub loop-s-init : goal.loop-s-init
loop-s-init c = (search rules, built_none _ _ _ _ refl)

pub loop-s-preserved : goal.loop-s-preserved
loop-s-preserved c =
    let l = c.loop-s in
    (l.invariant.0, built_more _ _ _ l.s l.r _ (omega arith) l.invariant.1 c.at.ensures)

pub returns : goal.returns
returns c =
    let l = c.loop-s in
    let m = c.args.m in
    built_done _ _ _ l.s l.r (bits_of m) (omega arith) l.invariant.1
    (let e = bits_of_length m in let q = l.invariant.0 in omega arith)
    (λ k h. refl)
