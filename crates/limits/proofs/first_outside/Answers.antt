use Rattle.index.proofs.Auto.{auto}
use Rattle.index.proofs.Flags.{not_yes, not_no}
use Rattle.limits.specs.Limits.{outside}
use Rattle.limits.proofs.first_outside.Goals as goal

pub loop-i-init : goal.loop-i-init
loop-i-init c = search auto

pub code_in-requires : goal.code_in-requires
code_in-requires c = search auto

pub returns-then-not-code_in : goal.returns-then-not-code_in
unfolding outside
returns-then-not-code_in c = search (auto, not_yes)

pub loop-i-preserved : goal.loop-i-preserved
unfolding outside
loop-i-preserved c = search (auto, not_no)

pub returns : goal.returns
returns c = search auto
