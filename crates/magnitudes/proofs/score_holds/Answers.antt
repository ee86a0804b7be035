-- `magnitudes::score_holds`: the rule of either edition, on magnitudes.
use native.Mathlib.Omega.{arith}
use Rattle.layout.specs.View.{state_of}
use Rattle.magnitudes.proofs.SizeLaws.{sum_few, first_read, second_read, score_told}
use Rattle.magnitudes.proofs.score_holds.Goals as goal

pub load_magnitude-d-requires : goal.load_magnitude-d-requires
load_magnitude-d-requires c = (c.requires.0, omega arith)

pub load_magnitude-out-requires : goal.load_magnitude-out-requires
load_magnitude-out-requires c = (c.requires.0, omega arith)

pub load_magnitude-score-requires : goal.load_magnitude-score-requires
load_magnitude-score-requires c = (c.requires.0, omega arith)

pub overflow_add-result : goal.overflow_add-result
overflow_add-result c =
    let h =
    sum_few (state_of c.args.table.now) c.requires.1 _ _ _ c.load_magnitude-d.ensures.0
    c.load_magnitude-out.ensures.0
    c.load_magnitude-score.ensures.0 in
    omega arith

pub returns-in-First : goal.returns-in-First
returns-in-First c e =
    score_told (state_of c.args.table.now).codes c.in-First.is
    (first_read (state_of c.args.table.now) c.requires.1 _ _ _
    c.load_magnitude-d.ensures.0
    c.load_magnitude-out.ensures.0 c.load_magnitude-score.ensures.0 e)

pub returns-in-Second : goal.returns-in-Second
returns-in-Second c e =
    score_told (state_of c.args.table.now).codes c.in-Second.is
    (second_read (state_of c.args.table.now) c.requires.1 _ _ _
    c.load_magnitude-d.ensures.0
    c.load_magnitude-out.ensures.0 c.load_magnitude-score.ensures.0 e)
