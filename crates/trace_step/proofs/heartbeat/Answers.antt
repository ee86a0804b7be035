-- `trace_step::heartbeat`: a number of the permutation that cannot be read, or the call.
use Rattle.trace_step.proofs.ReplayLaws.{heartbeat_unread, heartbeat_called}
use Rattle.trace_step.proofs.heartbeat.Goals as goal

pub returns-in-Err : goal.returns-in-Err
returns-in-Err c =
    let u = c.read_numbers in
    let n = c.order_size-n in
    heartbeat_unread _ c.args.v.now _ _ c.args.edition n.ensures.0 u.result _ u.ensures.0 _ _ _ _
    c.in-Err.is c.unread.ensures

pub returns : goal.returns
returns c =
    let u = c.read_numbers in
    let n = c.order_size-n in
    heartbeat_called _ c.args.v.now _ _ c.args.edition n.ensures.0 u.result _ u.ensures.0 _ _ _ _ _ _ _
    c.in-Ok.is
    c.widen.ensures
    c.heartbeat-a.ensures
