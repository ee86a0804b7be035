use native.Mathlib.Omega.{arith}
use borrow.Author.Rules.{rules}
use mathlib.Core.Path.{◌≡◌}
use lib.ListN.{length}
use Rattle.words.specs.Words.{word_count, bits_of}
use Rattle.words.proofs.WideLaws.{bits_of_length}
use Rattle.words.proofs.NextLaws.{next_lowest}
use Rattle.words.proofs.lowest.Goals as goal

pub next-requires : goal.next-requires
next-requires c = (search rules, omega arith)

pub returns : goal.returns
returns c =
    let l : length c.args.m ≡ word_count = search rules in
    let b = bits_of_length c.args.m in
    next_lowest (bits_of c.args.m) _ (omega arith) c.next.ensures
