-- `replies::lane_ok`: a count of 0 is within any bound.
use mathlib.Core.Path.{ap, ◌∙◌}
use mathlib.Core.Bool.{Bool, ◌&&◌, ◌||◌}
use lib.Dec.{leb, eqb}
use Rattle.records.specs.Records.{slot_count}
use Rattle.replies.specs.Asked.{on_bits}
use Rattle.replies.proofs.TestLaws.{lane_test}
use Rattle.replies.proofs.lane_ok.Goals as goal

pub returns : goal.returns
returns c =
    let a = c.args in
    ap (λ (b : Bool). (leb slot_count a.s || eqb a.v 0) || (b && leb a.v a.most)) c.at.ensures
    ∙ lane_test (leb slot_count a.s) (on_bits a.connected.now a.s) a.v a.most
