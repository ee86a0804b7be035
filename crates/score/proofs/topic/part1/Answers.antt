-- `score::topic::part1` meets its contract. Assumes nothing.
use Prim.Native.Nat.{ℕ, ◌*◌}
use native.Mathlib.Omega.{arith}
use borrow.Author.Rules.{rules}
use mathlib.Core.Path.{ap, ◌∙◌}
use Rattle.score.proofs.PartLaws.{part1_member, part1_other}
use Rattle.score.proofs.topic.part1.Goals as goal

pub returns-then-r-eq1 : goal.returns-then-r-eq1
returns-then-r-eq1 c = (ap (λ (n : ℕ). n * 1000000) c.min.ensures ∙ part1_member _ _ c.if-r-eq1.true, omega arith)

pub returns-else-r-eq1 : goal.returns-else-r-eq1
returns-else-r-eq1 c = (part1_other _ _ c.if-r-eq1.false, search rules)
