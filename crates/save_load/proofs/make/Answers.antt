-- `save_load::make`: a fresh router, the clock, and the records. Assumes nothing.
use Rattle.save_load.proofs.CheckLaws.{make_is}
use Rattle.save_load.proofs.make.Goals as goal

pub returns-clause-state : goal.returns-clause-state
returns-clause-state c l end w =
    make_is c.args.params c.args.clock c.args.n l c.requires.1.0 c.requires.1.1.1.0
    c.fresh.result _ _ _ _
    c.fresh.ensures
    c.store_clock.ensures.0
    (c.store_rows.ensures l end w)
