-- `trace_feed::feed_front`: what the front says, and the parameters behind it.
use borrow.Author.Rules.{rules}
use Rattle.trace_feed.proofs.TurnLaws.{begins_within, front_begins, front_other, front_want, front_ends}
use Rattle.trace_feed.proofs.feed_front.Goals as goal

pub feed_params-requires : goal.feed_params-requires
feed_params-requires c = (
  search rules,
  begins_within _ _ c.front_in.ensures _ _ c.in-Ok.is,
)

pub returns-then-last : goal.returns-then-last
returns-then-last c =
    front_ends _ _ c.front_in.ensures _
    (rw c.in-Err-Cut.field-0-is at c.in-Err-Cut.is) _ _ _ _ c.if-last.true
    c.put_pair-then-last.ensures

pub returns-in-Ok : goal.returns-in-Ok
returns-in-Ok c =
    front_begins _ _ c.front_in.ensures _ _ _ _ _ _ _ _
    c.in-Ok.is c.feed_params.ensures

pub returns-in-Err-Other : goal.returns-in-Err-Other
returns-in-Err-Other c =
    front_other _ _ c.front_in.ensures _ _ _ _ _
    (rw c.in-Err-Other.field-0-is at c.in-Err-Other.is) c.put_pair.ensures

pub returns-else-last : goal.returns-else-last
returns-else-last c = front_want _ _ c.front_in.ensures _ (rw c.in-Err-Cut.field-0-is at c.in-Err-Cut.is) _ _ c.if-last.false
