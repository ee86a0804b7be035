-- `trace_step::connect`: too long a name, two ways of being short, or the call.
use native.Mathlib.Omega.{arith}
use Rattle.trace_step.proofs.ReplayLaws.{connect_long, connect_short, connect_called}
use Rattle.trace_step.proofs.connect.Goals as goal

pub returns-then-size-gt-NAME_MOST : goal.returns-then-size-gt-NAME_MOST
returns-then-size-gt-NAME_MOST c = connect_long _ _ _ _ _ _ _ _ _ c.if-size-gt-NAME_MOST.true

pub returns-then-s-at : goal.returns-then-s-at
returns-then-s-at c =
    let h = c.if-s-at.true in
    connect_short _ _ _ _ _ _ _ _ _ c.if-size-gt-NAME_MOST.false (omega arith)

pub returns-then-s-at-2 : goal.returns-then-s-at-2
returns-then-s-at-2 c =
    let h = c.if-s-at-2.true in
    let g = c.if-s-at.false in
    connect_short _ _ _ _ _ _ _ _ _ c.if-size-gt-NAME_MOST.false (omega arith)

pub returns : goal.returns
returns c =
    let h = c.if-s-at-2.false in
    let g = c.if-s-at.false in
    connect_called _ _ _ _ _ _ _ _ _ _ _ _ c.if-size-gt-NAME_MOST.false (omega arith)
    c.connect-a.ensures
