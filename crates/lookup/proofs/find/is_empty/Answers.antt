use Rattle.lookup.proofs.find.is_empty.Goals as goal

pub returns : goal.returns
returns c = cc
