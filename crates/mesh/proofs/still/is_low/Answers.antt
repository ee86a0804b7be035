-- `mesh::still::is_low`: not asked, fewer than two members, or the median's test.
use native.Mathlib.Omega.{arith}
use Rattle.words.specs.Words.{bits_of}
use Rattle.mesh.proofs.StillLaws.{low_unasked, low_few, low_is}
use Rattle.mesh.proofs.still.is_low.Goals as goal

pub returns-then-not-ask : goal.returns-then-not-ask
returns-then-not-ask c =
    low_unasked c.args.threshold c.args.ask c.args.scores.now (bits_of c.args.m) c.if-not-ask.true

pub returns-then-n-lt2 : goal.returns-then-n-lt2
returns-then-n-lt2 c =
    low_few c.args.threshold c.args.ask c.args.scores.now (bits_of c.args.m) c.size-n.ensures c.if-n-lt2.true

pub middle-requires : goal.middle-requires
middle-requires c = record { scores_len = c.requires; k_bound = omega (arith, c.size-n.ensures, c.if-n-lt2.false) }

pub returns : goal.returns
returns c =
    low_is c.args.threshold c.args.ask c.args.scores.now (bits_of c.args.m) c.size-n.ensures
    c.if-not-ask.false
    c.if-n-lt2.false
    c.middle.ensures
