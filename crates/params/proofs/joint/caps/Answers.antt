use Rattle.index.proofs.Auto.{auto}
use Rattle.params.proofs.joint.caps.Goals as goal

pub loop-k-init : goal.loop-k-init
loop-k-init c = search auto

pub cap_keeps-requires : goal.cap_keeps-requires
cap_keeps-requires c = (c.requires, c.loop-k-test.true)

pub returns-then-not-cap_keeps : goal.returns-then-not-cap_keeps
returns-then-not-cap_keeps c = search auto

pub loop-k-preserved : goal.loop-k-preserved
loop-k-preserved c = search auto

pub returns : goal.returns
returns c = search auto
