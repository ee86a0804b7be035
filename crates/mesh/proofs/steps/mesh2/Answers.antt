-- `mesh::steps::mesh2` meets its contract.
-- Assumes nothing.
use Rattle.words.specs.Words.{bits_of}
use Rattle.mesh.specs.Words.{view_of}
use Rattle.mesh.proofs.StepLaws.{mesh2_under, mesh2_else}
use Rattle.mesh.proofs.steps.mesh2.Goals as goal

pub returns-then-lo-n : goal.returns-then-lo-n
returns-then-lo-n c scores =
    let s = c.args in
    mesh2_else s.t (view_of s.v scores s.order.now) (bits_of s.m) c.size-n.ensures c.if-lo-n.true

pub returns : goal.returns
returns c scores =
    let s = c.args in
    mesh2_under s.t (view_of s.v scores s.order.now) (bits_of s.m) c.size-n.ensures c.if-lo-n.false
    c.saturating_sub.ensures
    c.fill.ensures
