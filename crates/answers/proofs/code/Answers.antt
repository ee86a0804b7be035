-- `answers::code` meets its contract. Assumes nothing.
use native.Mathlib.Omega.{arith}
use mathlib.Core.Path.{◌∙◌, ap₂}
use Rattle.answers.specs.Answers.{packed}
use Rattle.answers.proofs.AnswerLaws.{number_most}
use Rattle.answers.proofs.code.Goals as goal

pub packed-requires : goal.packed-requires
packed-requires c =
    let n = c.number_of in
    (omega (arith, n.ensures, number_most c.args.a), omega (arith, c.actions_of.ensures, c.requires))

pub returns : goal.returns
returns c =
    c.packed.ensures ∙ ap₂ packed c.number_of.ensures c.actions_of.ensures
