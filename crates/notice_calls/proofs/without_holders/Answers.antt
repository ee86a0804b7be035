-- `notice_calls::without_holders`: each slot of the set is asked for the number.
use borrow.Author.Rules.{rules}
use Rattle.index.proofs.Kit.{not}
use Rattle.gossip.specs.Notes.{note_in, holds}
use Rattle.gossip_table.specs.View.{gossip_of}
use Rattle.notice_calls.proofs.without_holders.Goals as goal

pub returns : goal.returns
returns c =
    let a = c.args in
    c.sift.ensures (λ s. not (holds (note_in (gossip_of a.gossip.now) s) a.number)) (λ s b l e. search rules)
