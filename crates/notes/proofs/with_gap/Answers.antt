use Rattle.notes.proofs.with_gap.Goals as goal

pub returns : goal.returns
returns c = cc
