-- `save_load::check_records`: each end by its case. Assumes nothing.
use Rattle.std.proofs.Common.{Ok, Err}
use mathlib.Core.Path.{refl}
use Rattle.lookup.specs.Fresh.{fresh_state}
use Rattle.save_load.proofs.CheckLaws.{fresh_coded, records_broken, records_over, records_outside, records_fine}
use Rattle.std.proofs.lemmas.Result.{err_from_is_err_and}
use Rattle.save_load.proofs.check_records.Goals as goal

pub returns-in_err-next : goal.returns-in_err-next
returns-in_err-next c p clock d =
    let e = err_from_is_err_and c.from_residual.result c.from_residual.ensures.1 in
    rw (e.1, e.2)
    (records_broken p clock c.args.s.now c.args.codes.now c.args.n c.args.at d c.requires.1 (Err _) c.in_err-next.ensures _ refl)

pub returns-then-next-s : goal.returns-then-next-s
returns-then-next-s c p clock d = records_over p clock c.args.s.now
    c.args.codes.now
    c.args.n
    c.args.at d
    c.requires.1 (Ok _)
    c.in_ok-next.ensures _ refl c.if-next-s.true

pub returns-in-Some : goal.returns-in-Some
returns-in-Some c p clock d =
    records_outside p clock c.args.s.now
    c.args.codes.now
    c.args.n
    c.args.at d
    c.requires.1
    (Ok _)
    c.in_ok-next.ensures _
    refl c.if-next-s.false
    c.judge.result
    (c.judge.ensures (fresh_state p) (fresh_coded p _ d))
    _
    c.in-Some.is

pub returns : goal.returns
returns c p clock d =
    records_fine p clock c.args.s.now
    c.args.codes.now
    c.args.n
    c.args.at d
    c.requires.1
    (Ok _)
    c.in_ok-next.ensures _
    refl c.if-next-s.false
    c.judge.result
    (c.judge.ensures (fresh_state p) (fresh_coded p _ d))
    c.in_default.is
