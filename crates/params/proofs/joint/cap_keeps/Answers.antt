-- `params::joint::cap_keeps`: the rule of codes is that of the numbers. Assumes nothing.
use Rattle.params.proofs.CodeRules.{cap_of}
use Rattle.params.proofs.joint.cap_keeps.Goals as goal

pub returns : goal.returns
returns c = cap_of c.args.codes.now c.requires.0.1 c.args.k c.requires.1
