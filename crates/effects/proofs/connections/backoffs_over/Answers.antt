-- `effects::connections::backoffs_over`: each end is asked.
use mathlib.Core.Path.{◌≡◌}
use mathlib.Core.Bool.{true, false, not}
use borrow.Author.Rules.{rules}
use borrow.Author.Tests.{tests}
use lib.Dec.{ltb}
use lib.ListN.{length}
use Rattle.std.proofs.lemmas.Iterator.{YieldsList-from_slice, cases_from_all}
use Rattle.layout.proofs.RangeLaws.{every_item}
use Rattle.effects.proofs.connections.backoffs_over.Goals as goal

pub returns : goal.returns
returns c =
    let a = c.args in
    let n : length a.p.backoff ≡ 8 = search rules in
    every_item (λ e. not (ltb a.time e)) 0 a.p.backoff 8 c.all.result n
    (cases_from_all _ _ c.all.result (λ e. not (ltb a.time e) ≡ true) (λ e. not (ltb a.time e) ≡ false) c.all.ensures.ran
    (YieldsList-from_slice a.p.backoff cc) (λ x q k. search (rules, tests)) (λ x q k. search (rules, tests)))
