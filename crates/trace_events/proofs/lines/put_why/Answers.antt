-- `trace_events::lines::put_why` meets its contract. Assumes nothing.
use borrow.Author.Rules.{rules}
use Rattle.trace_events.proofs.LineLaws.{WhyFits, why_stored}
use Rattle.trace_events.proofs.lines.put_why.Goals as goal

pub returns : goal.returns
returns c =
    let f : WhyFits c.args.w =
    record {
      topics = search rules;
      capped = search rules;
      p5 = search rules;
      p6 = search rules;
      p7 = search rules;
      score = search rules;
    } in
    why_stored c.args.w _ _ _ _ _ _ _ _ f
    c.put_letter-k.ensures c.put_three-k.ensures
    c.put_three.ensures
