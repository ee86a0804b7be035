-- `trace_feed::feed_params`: the verdict on the parameters, and what it prints.
use Rattle.index.proofs.Kit.{refl, sym, ◌∙◌}
use Rattle.params_bytes.proofs.ReadLaws.{as_taken, as_refused}
use Rattle.trace_feed.proofs.TurnLaws.{params_accepted, params_broken, params_want, params_malformed}
use Rattle.trace_feed.proofs.feed_params.Goals as goal

pub returns-then-last-cut_short : goal.returns-then-last-cut_short
returns-then-last-cut_short c =
    params_want _ _ _ _ c.requires.1 _
    refl _ _ (as_refused _ _ (sym (rw c.in-Err-Malformed.field-0-is at c.in-Err-Malformed.is) ∙ c.read_front.ensures))
    (rw c.in-Err-Malformed.field-0-is at c.cut_short.ensures) _ _
    c.if-last-cut_short.true

pub returns-in-Ok : goal.returns-in-Ok
returns-in-Ok c =
    params_accepted _ _ _ _ c.requires.1 _
    (as_taken _ _ _ (sym c.in-Ok.is ∙ c.read_front.ensures)) _ _ _ _ _ refl
    c.fresh.ensures

pub returns-else-last-cut_short : goal.returns-else-last-cut_short
returns-else-last-cut_short c =
    params_malformed _ _ _ _ c.requires.1 _
    refl _ _ (as_refused _ _ (sym (rw c.in-Err-Malformed.field-0-is at c.in-Err-Malformed.is) ∙ c.read_front.ensures))
    (rw c.in-Err-Malformed.field-0-is at c.cut_short.ensures)
    _ _ _ _ c.if-last-cut_short.false (rw c.in-Err-Malformed.field-0-is at c.put_pair.ensures)

pub returns-in-Err-Broken : goal.returns-in-Err-Broken
returns-in-Err-Broken c =
    params_broken _ _ _ _ c.requires.1 _
    refl _ _ _ _ _ (as_refused _ _ (sym (rw c.in-Err-Broken.field-0-is at c.in-Err-Broken.is) ∙ c.read_front.ensures))
    (rw c.in-Err-Broken.field-0-is at c.put_pair-in-Err-Broken.ensures)
