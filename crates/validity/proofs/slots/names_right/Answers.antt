use mathlib.Core.Path.{refl}
use native.Mathlib.Omega.{arith}
use borrow.Author.Rules.{rules}
use borrow.Author.Tests.{tests}
use Rattle.std.proofs.lemmas.Iterator.{YieldsList-from_range, cases_from_all, serves_from_Range}
use Rattle.layout.specs.View.{state_of}
use Rattle.layout.proofs.RangeLaws.{each_if}
use Rattle.validity.specs.Looks.{NameAt}
use Rattle.validity.proofs.LookLaws.{named_told}
use Rattle.validity.proofs.slots.names_right.Goals as goal

pub returns-then-named : goal.returns-then-named
returns-then-named c e = named_told _ _ (c.named.ensures c.if-named.true)

pub all-requires : goal.all-requires
all-requires c =
    let r = c.requires in
    record { can = tt; finite = tt; callable = serves_from_Range (λ x q k. search (rules, tests)) (λ x low high. search rules) }

pub returns : goal.returns
returns c e =
    let st = state_of c.args.table.now in
    each_if (NameAt st) (λ s. Unit {0}) c.args.n c.all.result
    (cases_from_all _ _ c.all.result (NameAt st) (λ s. Unit {0}) c.all.ensures.ran (YieldsList-from_range 0 c.args.n c.args.n refl (omega arith))
    (λ x q k. search (rules, tests)) (λ x q k. tt))
    e
