-- `replies::under`: the lanes are every second one, and those between.
use Rattle.index.proofs.Index.{both}
use Rattle.replies.proofs.LimitLaws.{under_both}
use Rattle.replies.proofs.under.Goals as goal

pub returns : goal.returns
returns c =
    λ t.
    let a = c.args in
    let p = both c.even_under.result c.even_under-2.result t in
    under_both a.x a.l (c.even_under.ensures p.0) (c.even_under-2.ensures p.1)
