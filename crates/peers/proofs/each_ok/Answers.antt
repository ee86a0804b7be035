use borrow.Author.Rules.{rules}
use Rattle.validity.proofs.Loops.{flag-loop}
use Rattle.peers.proofs.each_ok.Goals as goal

pub loop-k-init : goal.loop-k-init
loop-k-init c = search (flag-loop, rules)

pub loop-k-preserved : goal.loop-k-preserved
loop-k-preserved c = search (flag-loop, rules)

pub returns : goal.returns
returns c = search (flag-loop, rules)
