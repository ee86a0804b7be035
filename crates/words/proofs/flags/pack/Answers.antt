use native.Mathlib.Omega.{arith}
use borrow.Author.Rules.{rules}
use mathlib.Core.Path.{refl}
use Rattle.words.specs.Words.{word_count}
use Rattle.words.proofs.WideLaws.{packed_none, packed_more, packed_done}
use Rattle.words.proofs.flags.pack.Goals as goal

pub loop-i-init : goal.loop-i-init
loop-i-init c = (search rules, packed_none _ _ _ refl)

pub loop-i-preserved : goal.loop-i-preserved
loop-i-preserved c =
    let l = c.loop-i in
    (l.invariant.0, packed_more _ word_count l.i l.r _ (omega arith) l.invariant.1 c.packed.ensures)

pub returns : goal.returns
returns c = let l = c.loop-i in packed_done _ word_count l.i l.r (omega arith) l.invariant.0 l.invariant.1
