-- `trace_events::lines::put_three` meets its contract. Assumes nothing.
use Rattle.trace_events.proofs.LineLaws.{three_stored}
use Rattle.trace_events.proofs.lines.put_three.Goals as goal

pub returns : goal.returns
returns c =
    three_stored c.args.a c.args.b c.args.c c.args.after _ _ _ _ _ _ _ _ c.ranges.a c.ranges.b c.ranges.c
    c.put_part-k.ensures
    c.put_part-k-2.ensures c.put_part.ensures
