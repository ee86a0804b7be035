-- `gossip_calls::announcing::tell_any`: nobody, or the first of the targets in draw order.
use borrow.Author.Rules.{rules}
use Rattle.gossip_table.specs.View.{gossip_of}
use Rattle.gossip_calls.proofs.AnnounceLaws.{told_nobody, told_some, telling_drawn}
use Rattle.gossip_calls.proofs.announcing.tell_any.Goals as goal

pub returns-then-count-eq0 : goal.returns-then-count-eq0
returns-then-count-eq0 c l e = told_nobody _ _ _ l (search rules) e

pub tell_targets-requires : goal.tell_targets-requires
tell_targets-requires c = search (telling_drawn, rules)

pub returns : goal.returns
returns c l e =
    told_some _ (gossip_of c.args.gossip.now).setup _ _ _ _ _ _ _ _ _ l c.if-count-eq0.false e c.load_lazy.ensures
    c.load_factor.ensures
    c.targets-set.ensures
    c.tell_targets.ensures
