-- `credits::amounts` meets its contract: a way for each kind of delivery, and each amount leaves room in its counter. Assumes nothing.
use Rattle.index.proofs.Kit.{arith}
use borrow.Author.Tests.{eq-eqb, ne_eqb}
use Rattle.credits.proofs.CreditLaws.{first_amounts_lem, near_first_amounts_lem, invalid_amounts_lem}
use Rattle.credits.proofs.amounts.Goals as goal

pub returns-then-kind-eq1 : goal.returns-then-kind-eq1
returns-then-kind-eq1 c =
    let x = c.amount.ensures in
    let y = c.amount3.ensures in (
      first_amounts_lem _ _ _ _ _ (eq-eqb _ 1 c.if-kind-eq1.true) x.0 y.0,
      record { p2 = x.1; p3 = y.1; p4 = omega arith },
    )

pub returns-then-kind-eq2 : goal.returns-then-kind-eq2
returns-then-kind-eq2 c =
    let y = c.amount3-then-kind-eq2.ensures in (
      near_first_amounts_lem _ _ _ _ (ne_eqb _ 1 c.if-kind-eq1.false) (eq-eqb _ 2 c.if-kind-eq2.true) y.0,
      record { p2 = omega arith; p3 = y.1; p4 = omega arith },
    )

pub returns : goal.returns
returns c =
    let z = c.amount-2.ensures in (
      invalid_amounts_lem _ _ _ _ (ne_eqb _ 1 c.if-kind-eq1.false) (ne_eqb _ 2 c.if-kind-eq2.false) z.0,
      record { p2 = omega arith; p3 = omega arith; p4 = z.1 },
    )
