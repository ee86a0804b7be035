use Rattle.magnitudes.proofs.SizeLaws.{never, accepted_told}
use Rattle.magnitudes.proofs.accepted_by.Goals as goal

pub returns-then-not-numbers_lie : goal.returns-then-not-numbers_lie
returns-then-not-numbers_lie c e = never e

pub rules_hold-requires : goal.rules_hold-requires
rules_hold-requires c = (c.requires, c.numbers_lie.ensures c.if-not-numbers_lie.false)

pub returns : goal.returns
returns c e = accepted_told _ _ (c.numbers_lie.ensures c.if-not-numbers_lie.false) (c.rules_hold.ensures e)
