use Rattle.layout.specs.View.{state_of}
use Rattle.magnitudes.proofs.SizeLaws.{never, numbers_told}
use Rattle.magnitudes.proofs.numbers_lie.Goals as goal

pub returns-then-not-generals_lie : goal.returns-then-not-generals_lie
returns-then-not-generals_lie c e = never e

pub returns : goal.returns
returns c e =
    numbers_told (state_of c.args.table.now).codes
    (c.generals_lie.ensures c.if-not-generals_lie.false)
    (c.fields_lie.ensures e)
