use mathlib.Core.Path.{refl}
use borrow.Author.Rules.{rules}
use native.Mathlib.Omega.{arith}
use lib.ListN.{length-set}
use Rattle.std.proofs.lemmas.Result.{err_from_is_err_and}
use Rattle.trace_step.proofs.ReplayLaws.{few_actions}
use Rattle.trace_run.proofs.RecordedLaws.{going_none, going_more, ran_all, ran_stopped, accepted, begins, run_refused}
use Rattle.trace_run.proofs.run.Goals as goal

pub returns-in_err-fresh : goal.returns-in_err-fresh
returns-in_err-fresh c =
    let e = err_from_is_err_and c.from_residual.result c.from_residual.ensures.1 in
    rw (e.1, e.2) (run_refused _ _ _ _ c.in_err-fresh.ensures _ _ _ _ _ (search rules) refl)

pub loop-calls-init : goal.loop-calls-init
loop-calls-init c = (refl, (refl, λ params e. going_none _ params _ _ _ _ e))

pub returns-in_default : goal.returns-in_default
returns-in_default c =
    let l = c.loop-calls in
    let m = c.in_ok-fresh.ensures in
    let k = l.invariant.1.0 in
    ran_stopped _ _ _ _ _ (search rules) l.at l.calls _ _ _ _ (accepted _ _ _ _ m refl) (l.invariant.1.1 _ (begins _ _ _ _ m refl)) _ _ _
    (omega arith) c.perform.ensures (λ next a e. c.in_default.not-Ok (next, a) e)

pub code-requires : goal.code-requires
code-requires c = few_actions _ _ _ _ _ _ c.perform.ensures _ _ c.in-Ok.is

pub loop-calls-preserved : goal.loop-calls-preserved
loop-calls-preserved c =
    let l = c.loop-calls in
    let k = l.invariant.1.0 in (
      search rules,
      (
        simp length-set k,
        λ params e.
            going_more _ params _ _ _ _ _ _ _ _ _ _ _ (l.invariant.1.1 params e) (omega arith)
            c.perform.ensures _ _ c.in-Ok.is _
            c.code.ensures,
      ),
    )

pub returns : goal.returns
returns c =
    let l = c.loop-calls in
    let m = c.in_ok-fresh.ensures in
    let k = l.invariant.1.0 in
    ran_all _ _ _ _ _ (search rules) l.at l.calls _ _ _ _ (accepted _ _ _ _ m refl) (l.invariant.1.1 _ (begins _ _ _ _ m refl)) _
    (omega arith) (omega arith)
