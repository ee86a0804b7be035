-- `mesh::steps::mesh5` meets its contract: the four ways out are the rule's: not asked, fewer than two members, the median not below the
-- threshold, and the grafts. Assumes nothing.
use native.Mathlib.Omega.{arith}
use Rattle.words.specs.Words.{bits_of}
use Rattle.mesh.specs.Words.{view_of}
use Rattle.mesh.proofs.StepLaws.{mesh5_unasked, mesh5_few, mesh5_high, mesh5_low}
use Rattle.mesh.proofs.steps.mesh5.Goals as goal

pub returns-then-not-ask : goal.returns-then-not-ask
returns-then-not-ask c =
    mesh5_unasked c.args.t (view_of c.args.v c.args.scores.now c.args.order.now) (bits_of c.args.m) c.if-not-ask.true

pub returns-then-n-lt2 : goal.returns-then-n-lt2
returns-then-n-lt2 c =
    mesh5_few c.args.t (view_of c.args.v c.args.scores.now c.args.order.now) (bits_of c.args.m) c.size-n.ensures c.if-n-lt2.true

pub middle-median-requires : goal.middle-median-requires
middle-median-requires c =
    record { scores_len = c.requires; k_bound = omega (arith, c.size-n.ensures, c.if-n-lt2.false) }

pub returns-then-threshold-median : goal.returns-then-threshold-median
returns-then-threshold-median c =
    mesh5_high c.args.t (view_of c.args.v c.args.scores.now c.args.order.now) (bits_of c.args.m) c.size-n.ensures c.middle-median.ensures
    c.if-threshold-median.true

pub at_least-higher-requires : goal.at_least-higher-requires
at_least-higher-requires c = c.requires

pub returns : goal.returns
returns c =
    mesh5_low c.args.t (view_of c.args.v c.args.scores.now c.args.order.now) (bits_of c.args.m) c.if-not-ask.false c.size-n.ensures
    c.if-n-lt2.false
    c.middle-median.ensures
    c.if-threshold-median.false
    c.at_least-higher.ensures
    c.both.ensures
    c.fill.ensures
