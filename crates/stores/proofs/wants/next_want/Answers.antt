-- `stores::wants::next_want`: a number whose flag is up is left out; another is put behind those so far, and flagged. Assumes nothing.
use native.Mathlib.Omega.{arith}
use Rattle.stores.proofs.WantLaws.{place_low, next_known, next_new}
use Rattle.stores.proofs.wants.next_want.Goals as goal

pub bounds-known-at : goal.bounds-known-at
bounds-known-at c =
    let g = c.requires in
    let low = place_low _ g.0.order _ _ g.1.0 c.place_of-at.ensures.0 in
    let few = g.0.few in
    omega arith

pub returns-then-known-at : goal.returns-then-known-at
returns-then-known-at c =
    next_known _ _ _ _ _ _ c.requires.0 c.place_of-at.ensures.0 c.if-known-at.true

pub bounds-known-at-2 : goal.bounds-known-at-2
bounds-known-at-2 c =
    let g = c.requires in
    let low = place_low _ g.0.order _ _ g.1.0 c.place_of-at.ensures.0 in
    let few = g.0.few in
    omega arith

pub returns : goal.returns
returns c =
    let g = c.requires in
    next_new _ _ _ _ _ _ g.0 c.place_of-at.ensures.0 g.1.0 c.if-known-at.false
