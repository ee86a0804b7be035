-- `save_write::save`: each end by its test. Assumes nothing.
use Rattle.index.proofs.Kit.{ap, not}
use native.Mathlib.Omega.{arith}
use borrow.Author.Rules.{rules}
use Rattle.index.proofs.Flags.{failed, passed}
use Rattle.save_write.proofs.SaveLaws.{save_not, save_out, save_early, save_done}
use Rattle.save_write.proofs.save.Goals as goal

pub returns-then-not-is_router : goal.returns-then-not-is_router
returns-then-not-is_router c = save_not _ _ _ (failed c.is_router.ensures (ap not c.if-not-is_router.true))

pub returns-then-time-gt-MAX_TIME : goal.returns-then-time-gt-MAX_TIME
returns-then-time-gt-MAX_TIME c = save_out _ _ _ (passed c.is_router.ensures (ap not c.if-not-is_router.false)) c.if-time-gt-MAX_TIME.true

pub returns-then-time-load_clock : goal.returns-then-time-load_clock
returns-then-time-load_clock c =
    save_early _ _ _
    (passed c.is_router.ensures (ap not c.if-not-is_router.false))
    c.if-time-gt-MAX_TIME.false
    (omega (arith, c.load_clock.ensures, c.if-time-load_clock.true))

pub save_records-requires : goal.save_records-requires
save_records-requires c = (
  search rules,
  (
    passed c.is_router.ensures
        (ap not c.if-not-is_router.false),
    (
      c.if-time-gt-MAX_TIME.false,
      omega (arith, c.load_clock.ensures, c.if-time-load_clock.false),
    ),
  ),
)

pub shape_of-buf : goal.shape_of-buf
shape_of-buf c = c.save_records.auto.buf

pub returns : goal.returns
returns c =
    save_done _ _ _
    (passed c.is_router.ensures
    (ap not c.if-not-is_router.false))
    c.if-time-gt-MAX_TIME.false
    (omega (
      arith,
      c.load_clock.ensures,
      c.if-time-load_clock.false,
    ))
    _
    _
    c.save_records.ensures
