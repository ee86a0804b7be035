-- `trace_step::connecting`: the connect of the edition.
use Rattle.trace_step.proofs.ReplayLaws.{connecting_as}
use Rattle.trace_step.proofs.connecting.Goals as goal

pub returns-in-First : goal.returns-in-First
returns-in-First c = connecting_as _ _ _ _ _ _ _ _ _ _ c.in-First.is
    c.alone.ensures

pub returns-in-Second : goal.returns-in-Second
returns-in-Second c = connecting_as _ _ _ _ _ _ _ _ _ _ c.in-Second.is
    c.alone-in-Second.ensures

pub returns-in-Third : goal.returns-in-Third
returns-in-Third c = connecting_as _ _ _ _ _ _ _ _ _ _ c.in-Third.is
    c.counted.ensures
