-- `save_load::check_count`: each end by its case. Assumes nothing.
use native.Mathlib.Omega.{arith}
use Rattle.save_load.proofs.CheckLaws.{count_bad, count_over, count_fine}
use Rattle.save_load.proofs.check_count.Goals as goal

pub returns-in_default : goal.returns-in_default
returns-in_default c p clock d = count_bad p clock c.args.s.now _ _ _
    c.read_u64.ensures c.in_default.is

pub returns-then-most-n : goal.returns-then-most-n
returns-then-most-n c p clock d = count_over p clock c.args.s.now _ _ _
    c.read_u64.ensures _ _ c.in-Some.is c.if-most-n.true

pub check_records-requires : goal.check_records-requires
check_records-requires c = let h = c.if-most-n.false in let p = c.requires.1 in
    (c.requires.0, omega arith)

pub returns : goal.returns
returns c p clock d =
    count_fine p clock c.args.s.now _ _ _
    c.read_u64.ensures _ _ c.in-Some.is c.if-most-n.false
    c.check_records.result
    (c.check_records.ensures p clock d)
