-- `trace_step::perform`: no kind, an unknown one, or the event.
use Rattle.trace_step.proofs.ReplayLaws.{perform_bad, perform_unknown, perform_known}
use Rattle.trace_step.proofs.perform.Goals as goal

pub returns-in_default : goal.returns-in_default
returns-in_default c = perform_bad _ _ _ _ c.read_u64.ensures _ _ _ c.in_default.is c.unread.ensures

pub returns-then-n-eq0 : goal.returns-then-n-eq0
returns-then-n-eq0 c =
    perform_unknown _ _ _ _ c.read_u64.ensures _ _ _ _ _
    c.in-Some.is c.arity-n.ensures.0 c.if-n-eq0.true

pub perform_kind-requires : goal.perform_kind-requires
perform_kind-requires c = c.arity-n.ensures.0

pub returns : goal.returns
returns c =
    perform_known _ _ _ _ c.read_u64.ensures _ _ _ _ _ _
    _
    _ c.in-Some.is
    c.arity-n.ensures.0 c.if-n-eq0.false
    c.perform_kind.ensures
