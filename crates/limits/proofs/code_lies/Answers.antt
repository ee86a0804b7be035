-- `limits::code_lies` meets its contract. Assumes nothing.
use borrow.Author.Rules.{sfits_of}
use mathlib.Core.Path.{◌∙◌, ap}
use lib.IntN.{ℤ}
use Rattle.limits.specs.Limits.{lies}
use Rattle.limits.specs.declared.Limit.{Limit}
use Rattle.limits.proofs.LimitLaws.{lies_between}
use Rattle.limits.proofs.code_lies.Goals as goal

pub returns : goal.returns
returns c =
    let n = c.number_of in
    let l : Limit = record { low = c.args.low; high = c.args.high } in
    lies_between n.result l _ (sfits_of n.type_inv) c.ranges.low c.ranges.high c.between.ensures
    ∙ ap (λ (x : ℤ). lies x l) n.ensures
