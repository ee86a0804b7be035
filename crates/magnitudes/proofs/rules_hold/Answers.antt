use Rattle.magnitudes.proofs.SizeLaws.{never, rules_told}
use Rattle.magnitudes.proofs.rules_hold.Goals as goal

pub returns-then-not-degrees_hold : goal.returns-then-not-degrees_hold
returns-then-not-degrees_hold c e = never e

pub returns-then-not-score_holds : goal.returns-then-not-score_holds
returns-then-not-score_holds c e = never e

pub returns-then-not-thresholds_hold : goal.returns-then-not-thresholds_hold
returns-then-not-thresholds_hold c e = never e

pub returns : goal.returns
returns c e =
    rules_told _ c.requires.1 _
    (c.degrees_hold.ensures
    c.if-not-degrees_hold.false)
    (c.score_holds.ensures c.if-not-score_holds.false)
    (c.thresholds_hold.ensures c.if-not-thresholds_hold.false)
    (c.caps_hold.ensures e)
