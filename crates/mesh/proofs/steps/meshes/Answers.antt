-- `mesh::steps::meshes` meets its contract.
-- Assumes nothing.
use Rattle.records.specs.Records.{slot_count}
use Rattle.mesh.specs.Words.{view_of}
use Rattle.mesh.proofs.StepLaws.{meshes_are}
use Rattle.mesh.proofs.steps.meshes.Goals as goal

pub mesh1-first-requires : goal.mesh1-first-requires
mesh1-first-requires c = c.requires

pub mesh5-fifth-requires : goal.mesh5-fifth-requires
mesh5-fifth-requires c = c.requires

pub returns : goal.returns
returns c =
    let s = c.args in
    let scores = s.scores.now in
    meshes_are slot_count s.t (view_of s.v scores s.order.now) (c.mesh1-first.ensures s.order.now)
    (c.mesh2-second.ensures scores)
    c.mesh3-third.ensures
    (c.mesh4-fourth.ensures scores)
    c.mesh5-fifth.ensures
