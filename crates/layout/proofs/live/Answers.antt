use Rattle.layout.specs.View.{live_at}
use Rattle.layout.proofs.live.Goals as goal

pub returns : goal.returns
unfolding live_at
returns c =
    c.keep.ensures
