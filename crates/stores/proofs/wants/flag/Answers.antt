-- `stores::wants::flag`: the flag at the place of m is up then, if m stands there. Assumes nothing.
use native.Mathlib.Omega.{arith}
use Rattle.stores.proofs.WantLaws.{flag_none, flag_one}
use Rattle.stores.proofs.wants.flag.Goals as goal

pub returns-then-at-rising : goal.returns-then-at-rising
returns-then-at-rising c =
    flag_none _ c.requires.order _ _ _ c.place_of-at.ensures.0 c.if-at-rising.true

pub returns : goal.returns
returns c =
    let g = c.requires in
    let few = g.few in
    let size = g.size in
    let low = c.place_of-at.ensures.1 in
    let other = c.if-at-rising.false in
    flag_one _ g.order _ _ _ c.place_of-at.ensures.0 (omega (arith, other))
