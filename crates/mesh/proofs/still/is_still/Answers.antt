-- `mesh::still::is_still`: the numbers' tests, then step 5's.
use mathlib.Core.Path.{refl}
use Rattle.words.specs.Words.{bits_of}
use Rattle.mesh.proofs.StillLaws.{still_not, still_is}
use Rattle.mesh.proofs.still.is_still.Goals as goal

pub returns-then-not-enough : goal.returns-then-not-enough
returns-then-not-enough c =
    still_not c.args.t (bits_of c.args.outbound) c.args.ask c.args.scores.now (bits_of c.args.m) c.size-n.ensures
    c.both.ensures
    c.size-outs.ensures
    refl
    c.if-not-enough.true

pub is_low-requires : goal.is_low-requires
is_low-requires c = c.requires

pub returns : goal.returns
returns c =
    still_is c.args.t (bits_of c.args.outbound) c.args.ask c.args.scores.now (bits_of c.args.m) c.size-n.ensures
    c.both.ensures
    c.size-outs.ensures
    refl
    c.if-not-enough.false
    c.is_low.ensures
