-- `mesh::steps::mesh1` meets its contract.
-- Assumes nothing.
use Rattle.mesh.specs.Words.{view_of}
use Rattle.mesh.proofs.StepLaws.{mesh1_is}
use Rattle.mesh.proofs.steps.mesh1.Goals as goal

pub at_least-requires : goal.at_least-requires
at_least-requires c = c.requires

pub returns : goal.returns
returns c order =
    let s = c.args in
    mesh1_is (view_of s.v s.scores.now order) c.at_least.ensures c.both.ensures
