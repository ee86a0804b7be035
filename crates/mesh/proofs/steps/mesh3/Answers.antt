-- `mesh::steps::mesh3` meets its contract.
-- Assumes nothing.
use Rattle.records.specs.Records.{slot_count}
use Rattle.words.specs.Words.{bits_of}
use Rattle.mesh.specs.Words.{view_of}
use Rattle.mesh.proofs.StepLaws.{mesh3_over, mesh3_else}
use Rattle.mesh.proofs.steps.mesh3.Goals as goal

pub returns-then-n-hi : goal.returns-then-n-hi
returns-then-n-hi c =
    let s = c.args in
    mesh3_else s.t (view_of s.v s.scores.now s.order.now) (bits_of s.m) c.size-n.ensures slot_count c.if-n-hi.true

pub returns : goal.returns
returns c =
    let s = c.args in
    mesh3_over s.t (view_of s.v s.scores.now s.order.now) (bits_of s.m) c.size-n.ensures slot_count
    c.if-n-hi.false
    c.bests-best.ensures
    c.size.ensures
    c.saturating_sub.ensures
    c.fill-keepers.ensures
    c.swap_to.ensures
