use mathlib.Core.Path.{◌≡◌}
use mathlib.Core.Bool.{true, false}
use borrow.Author.Rules.{rules}
use borrow.Author.Tests.{tests}
use Rattle.std.proofs.lemmas.Iterator.{first_from_Range}
use Rattle.records.specs.Records.{slot_count}
use Rattle.layout.specs.View.{state_of}
use Rattle.lookup.specs.Find.{holds}
use Rattle.lookup.proofs.FindLaws.{first_found}
use Rattle.lookup.proofs.find.find.Goals as goal

pub returns : goal.returns
returns c =
    let a = c.args in
    let f = holds (state_of a.table.now) a.status a.id in
    first_found f slot_count _
    (first_from_Range _ _ _ c.find.result (λ s. f s ≡ true) (λ s. f s ≡ false) c.find.ensures.ran
    (λ x q k. search (rules, tests)) (λ x q k. search (rules, tests)))
