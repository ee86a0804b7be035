-- `mesh::steps::mesh4` meets its contract.
-- Assumes nothing.
use Rattle.words.specs.Words.{bits_of}
use Rattle.mesh.specs.Words.{view_of}
use Rattle.mesh.proofs.StepLaws.{mesh4_is}
use Rattle.mesh.proofs.steps.mesh4.Goals as goal

pub returns : goal.returns
returns c scores =
    let s = c.args in
    mesh4_is s.t (view_of s.v scores s.order.now) (bits_of s.m) c.both-fits.ensures c.both.ensures
    c.size.ensures
    c.saturating_sub-room.ensures
    c.fill.ensures
