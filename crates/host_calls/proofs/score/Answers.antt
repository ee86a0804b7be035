-- `host_calls::score` meets its contract. Assumes nothing.
use Rattle.rules.proofs.CountLaws.{few_actions}
use Rattle.host_calls.proofs.HostLaws.{hosts, scored}
use Rattle.host_calls.proofs.score.Goals as goal

pub code-requires : goal.code-requires
code-requires c = few_actions _ _ _ _ _ _ c.score-a.ensures

pub returns : goal.returns
returns c =
    let f = c.score-a.ensures in
    (hosts _ f _ c.code.ensures, scored _ f _ _ c.why_or.ensures)
