use mathlib.Core.Path.{refl, ◌∙◌}
use native.Mathlib.Omega.{arith}
use borrow.Author.Rules.{rules, sfits_of}
use lib.ListN.{length-set}
use mir.Syntax.{w64}
use mir.Facts.{to_z-of_z}
use Rattle.records.specs.Records.{param_count}
use Rattle.params_bytes.proofs.ReadLaws.{after_none, after_more, after_bad, after_all}
use Rattle.params_bytes.proofs.parse.Goals as goal

pub loop-i-init : goal.loop-i-init
loop-i-init c = (search rules, (search rules, after_none param_count _ _ c.args.numbers.now))

pub returns-in_default : goal.returns-in_default
returns-in_default c = let l = c.loop-i in (
  _,
  (
    refl,
    after_bad param_count _ _ l.i l.numbers _ _ c.loop-i-test.true l.invariant.1.1
        c.read_u64.ensures c.in_default.is,
  ),
)

pub loop-i-preserved : goal.loop-i-preserved
loop-i-preserved c = let l = c.loop-i in (
  omega arith,
  (
    simp length-set l.invariant.1.0,
    after_more param_count _ _ l.i l.numbers _ _ _ _ _ (omega arith) (omega arith) l.invariant.1.1
        c.read_u64.ensures c.in-Some.is
        (to_z-of_z {w = w64} (sfits_of c.number_of.type_inv) ∙ c.number_of.ensures),
  ),
)

pub returns : goal.returns
returns c = let l = c.loop-i in after_all param_count _ _ l.i l.numbers _ (omega arith) (omega arith) l.invariant.1.1
