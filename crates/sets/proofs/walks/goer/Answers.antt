-- `sets::walks::goer` meets its contract.
-- Assumes nothing.
use Rattle.records.specs.Records.{slot_count}
use Rattle.words.specs.Words.{bits_of}
use Rattle.sets.proofs.WalkLaws.{goer_lowest, goer_last}
use Rattle.sets.proofs.walks.goer.Goals as goal

pub returns-then-size-eq0 : goal.returns-then-size-eq0
returns-then-size-eq0 c =
    let a = c.args in
    goer_lowest slot_count a.scores.now a.order.now (bits_of a.b) (bits_of a.p) c.except-others.ensures
    c.size.ensures
    c.if-size-eq0.true
    c.bottom.ensures

pub returns : goal.returns
returns c =
    let a = c.args in
    goer_last slot_count a.scores.now a.order.now (bits_of a.b) (bits_of a.p) c.except-others.ensures
    c.size.ensures
    c.if-size-eq0.false
    c.last_of.ensures
