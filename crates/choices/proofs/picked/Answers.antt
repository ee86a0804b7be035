-- `choices::picked` meets its contract: from flags to words and back.
-- Assumes nothing.
use Rattle.choices.proofs.picked.Goals as goal

pub returns : goal.returns
returns c =
    let u = c.unpack.ensures in
    let b = c.bests.ensures in
    let p = c.pack.ensures in
    cc
