-- `mesh::steps::changes` meets its contract.
-- Assumes nothing.
use Rattle.words.specs.Words.{bits_of}
use Rattle.mesh.specs.Words.{meshes_of}
use Rattle.mesh.proofs.StepLaws.{changes_are}
use Rattle.mesh.proofs.steps.changes.Goals as goal

pub returns : goal.returns
returns c =
    let s = c.args in
    changes_are (bits_of s.start) (meshes_of s.m) c.except.ensures c.except-2.ensures
    c.except-3.ensures
    c.except-4.ensures
    c.except-5.ensures
