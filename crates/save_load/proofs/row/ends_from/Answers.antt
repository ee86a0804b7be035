use Prim.Native.Nat.{ℕ, ◌+◌, ◌*◌}
use mathlib.Core.Path.{refl}
use native.Mathlib.Omega.{arith}
use Rattle.layout.specs.Rows.{tab}
use lib.ListN.{get_or}
use Rattle.index.proofs.Lists.{built_none, built_more, built_done}
use Rattle.layout.proofs.RowLaws.{length_tab, get_or_tab}
use Rattle.saves.specs.Load.{end_from}
use Rattle.save_load.proofs.StoreLaws.{end_fits}
use Rattle.save_load.proofs.row.ends_from.Goals as goal

pub loop-t-init : goal.loop-t-init
loop-t-init c = built_none 0 _ 8 _ refl

pub bounds-row-t : goal.bounds-row-t
bounds-row-t c = let n = c.requires.1.long in omega arith

pub end_from-requires : goal.end_from-requires
end_from-requires c =
    (c.requires.0, end_fits c.args.row.now c.requires.1 c.loop-t.t c.loop-t-test.true)

pub loop-t-preserved : goal.loop-t-preserved
loop-t-preserved c =
    let l = c.loop-t in
    built_more 0 _ 8 l.t l.ends c.end_from.result c.loop-t-test.true l.invariant c.end_from.ensures

pub returns : goal.returns
returns c =
    let l = c.loop-t in
    let f : ℕ → ℕ = λ k. end_from c.args.clock (get_or c.args.row.now (8 + k * 5) 0) in
    built_done 0 f 8 l.t l.ends (tab 8 f) c.loop-t-test.false l.invariant (length_tab 8 f) (λ k h. get_or_tab 8 f k 0 h)
