-- `message_ids::place_ok` meets its contract. Assumes nothing.
use Rattle.index.proofs.Kit.{rules}
use Rattle.message_ids.proofs.TableLaws.{place_far, place_first, place_after, last_low}
use Rattle.message_ids.proofs.place_ok.Goals as goal

pub returns-then-numbers-row : goal.returns-then-numbers-row
returns-then-numbers-row c = place_far _ _ _ c.if-numbers-row.true

pub returns-then-k-eq0 : goal.returns-then-k-eq0
returns-then-k-eq0 c = place_first _ _ _ c.if-numbers-row.false c.if-k-eq0.true

pub offset_bounds-numbers-last : goal.offset_bounds-numbers-last
offset_bounds-numbers-last c = let l = last_low _ _ _ c.requires.1.1 c.if-k-eq0.false in search rules

pub bounds-numbers-last : goal.bounds-numbers-last
bounds-numbers-last c = last_low _ _ _ c.requires.1.1 c.if-k-eq0.false

pub returns : goal.returns
returns c = place_after _ _ _ c.if-numbers-row.false c.if-k-eq0.false
