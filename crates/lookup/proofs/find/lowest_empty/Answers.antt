use mathlib.Core.Path.{◌≡◌}
use mathlib.Core.Bool.{true, false}
use borrow.Author.Rules.{rules}
use borrow.Author.Tests.{tests}
use Rattle.std.proofs.lemmas.Iterator.{first_from_Range}
use Rattle.records.specs.Records.{peer_in, is_empty, slot_count}
use Rattle.layout.specs.View.{state_of}
use Rattle.lookup.specs.Find.{lowest_empty}
use Rattle.lookup.proofs.FindLaws.{first_found}
use Rattle.lookup.proofs.find.lowest_empty.Goals as goal

pub returns : goal.returns
unfolding lowest_empty
returns c =
    let st = state_of c.args.table.now in
    first_found (λ s. is_empty (peer_in st s)) slot_count _
    (first_from_Range _ _ _ c.find.result (λ s. is_empty (peer_in st s) ≡ true) (λ s. is_empty (peer_in st s) ≡ false) c.find.ensures.ran
    (λ x q k. search (rules, tests)) (λ x q k. search (rules, tests)))
