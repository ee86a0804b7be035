-- `gate::see`: its parts as the callees ensure them.
-- Assumes nothing.
use Rattle.gate.proofs.see.Goals as goal

pub returns : goal.returns
returns c = cc
