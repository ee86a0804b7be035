-- `sets::size` meets its contract.
-- Assumes nothing.
use native.Mathlib.Omega.{arith}
use borrow.Author.Rules.{rules}
use mathlib.Core.Path.{◌≡◌}
use lib.ListN.{length}
use Rattle.records.specs.Records.{slot_count}
use Rattle.words.specs.Words.{word_count}
use Rattle.sets.proofs.WordSets.{size_words}
use Rattle.sets.proofs.size.Goals as goal

pub returns : goal.returns
returns c =
    let m = c.args.m in
    let l : length m ≡ word_count = search rules in
    size_words m slot_count _ (omega arith) c.size.ensures
