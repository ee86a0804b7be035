use mathlib.Core.Path.{◌≡◌, refl}
use mathlib.Core.Bool.{true, false}
use native.Mathlib.Omega.{arith}
use borrow.Author.Rules.{rules}
use borrow.Author.Tests.{tests}
use Rattle.std.proofs.lemmas.Iterator.{YieldsList-from_range, cases_from_all}
use Rattle.records.specs.Records.{topic_count}
use Rattle.layout.proofs.RangeLaws.{every_number}
use Rattle.rows.specs.View.{state_of_rows}
use Rattle.validity.specs.Valid.{topic_ok_at}
use Rattle.forms.proofs.test.topics_ok.Goals as goal

pub returns : goal.returns
returns c =
    let f = topic_ok_at (state_of_rows c.args.rows.now) c.args.slot c.args.status c.args.explicit in
    every_number f topic_count c.all.result
    (cases_from_all _ _ c.all.result (λ k. f k ≡ true) (λ k. f k ≡ false) c.all.ensures.ran
    (YieldsList-from_range 0 topic_count topic_count refl (omega arith)) (λ x q k. search (rules, tests)) (λ x q k. search (rules, tests)))
