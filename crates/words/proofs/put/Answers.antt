-- `words::put` meets its contract.
-- Assumes nothing.
use native.Mathlib.Omega.{arith}
use borrow.Author.Rules.{rules}
use mathlib.Core.Path.{◌≡◌, sym}
use lib.ListN.{length}
use Rattle.words.specs.Words.{word_count}
use Rattle.words.proofs.WideLaws.{set_slot, set_past}
use Rattle.words.proofs.put.Goals as goal

pub returns-then-s : goal.returns-then-s
returns-then-s c =
    let a = c.args in
    let l : length a.m ≡ word_count = search rules in
    set_slot a.m a.s c.with_bit.result a.b (omega arith) c.with_bit.ensures

pub returns-else-s : goal.returns-else-s
returns-else-s c =
    let a = c.args in
    let l : length a.m ≡ word_count = search rules in
    sym (set_past a.m a.s a.b (omega arith))
