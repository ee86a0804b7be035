-- `heartbeat::ask_ok`: the test.
use mathlib.Core.Path.{refl}
use Rattle.heartbeat.proofs.ask_ok.Goals as goal

pub returns : goal.returns
returns c = refl
