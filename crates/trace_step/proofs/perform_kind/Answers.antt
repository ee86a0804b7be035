-- `trace_step::perform_kind`: a number that cannot be read, a connect, or another call.
use borrow.Author.Rules.{rules}
use native.Mathlib.Omega.{arith}
use mathlib.Core.Path.{◌∙◌}
use Rattle.trace_events.specs.Reading.{number_most}
use Rattle.trace_events.proofs.ReadingLaws.{arity_most}
use Rattle.trace_step.proofs.ReplayLaws.{zeros, kind_unread, kind_connect, kind_heartbeat, kind_other}
use Rattle.trace_step.proofs.perform_kind.Goals as goal

pub read_numbers-requires : goal.read_numbers-requires
read_numbers-requires c = let h = c.requires in
    omega (arith, arity_most c.args.edition c.args.kind)

pub returns-in-Err : goal.returns-in-Err
returns-in-Err c =
    let u = c.read_numbers in
    kind_unread c.args.edition _ c.args.kind _ _ u.result _ u.ensures.0 _ _ _ _ c.in-Err.is
    c.unread.ensures

pub call-requires : goal.call-requires
call-requires c = ((search rules), (search rules))

pub returns-in-1 : goal.returns-in-1
returns-in-1 c =
    let u = c.read_numbers in
    kind_connect c.args.edition _ c.args.kind _ _ u.result _ u.ensures.0 (λ k h. u.ensures.1 k h ∙ zeros number_most k)
    _ c.in-Ok.is
    _ _ _ _ _ c.in-1.is c.connecting.ensures

pub returns-in-11 : goal.returns-in-11
returns-in-11 c =
    let u = c.read_numbers in
    kind_heartbeat c.args.edition _ c.args.kind _ _ u.result _ u.ensures.0 (λ k h. u.ensures.1 k h ∙ zeros number_most k)
    _ c.in-Ok.is
    _ _ _ _ _ c.in-11.is c.heartbeat.ensures

pub returns-in_default : goal.returns-in_default
returns-in_default c =
    let u = c.read_numbers in
    kind_other c.args.edition _ c.args.kind _ _ u.result _ u.ensures.0 (λ k h. u.ensures.1 k h ∙ zeros number_most k)
    _ c.in-Ok.is
    _ _ _ _ _ (search rules) (search rules) c.call.ensures
