use mathlib.Core.Path.{◌≡◌, refl}
use mathlib.Core.Bool.{true, false}
use native.Mathlib.Omega.{arith}
use borrow.Author.Rules.{rules}
use borrow.Author.Tests.{tests}
use Rattle.std.proofs.lemmas.Iterator.{YieldsList-from_range, cases_from_all}
use Rattle.records.specs.Records.{slot_count}
use Rattle.layout.proofs.RangeLaws.{every_number}
use Rattle.rows.specs.View.{state_of_rows}
use Rattle.validity.specs.Valid.{new_id}
use Rattle.forms.proofs.test.ids_distinct.Goals as goal

pub returns : goal.returns
returns c =
    let f = new_id (state_of_rows c.args.rows.now) in
    every_number f slot_count c.all.result
    (cases_from_all _ _ c.all.result (λ k. f k ≡ true) (λ k. f k ≡ false) c.all.ensures.ran
    (YieldsList-from_range 0 slot_count slot_count refl (omega arith)) (λ x q k. search (rules, tests)) (λ x q k. search (rules, tests)))
