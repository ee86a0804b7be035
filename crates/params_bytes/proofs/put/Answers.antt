use mathlib.Core.Path.{◌≡◌, ◌∙◌}
use native.Mathlib.Omega.{arith}
use borrow.Author.Rules.{rules}
use lib.ListN.{length}
use Rattle.records.specs.Records.{param_count}
use Rattle.params_bytes.proofs.WriteLaws.{stands_none, stands_more, stands_full, stands_all}
use Rattle.params_bytes.proofs.put.Goals as goal

pub loop-i-init : goal.loop-i-init
loop-i-init c = (search rules, stands_none _ _ _)

pub shape_of-buf-in_default : goal.shape_of-buf-in_default
shape_of-buf-in_default c = let l = c.loop-i in
    c.write_u64.auto.buf ∙ l.invariant.1.same

pub returns-in_default : goal.returns-in_default
returns-in_default c = let l = c.loop-i in
    stands_full c.args.numbers.now _ l.i _ _ _ _ _ _
    c.loop-i-test.true c.requires.2 l.invariant.1
    (search rules)
    c.code_of-u.ensures
    c.write_u64.ensures
    c.requires.1 c.in_default.is

pub loop-i-preserved : goal.loop-i-preserved
loop-i-preserved c = let l = c.loop-i in
    let n : length c.args.numbers.now ≡ param_count = c.requires.0 in (
      omega arith,
      stands_more c.args.numbers.now _ l.i _ _ _ _ _ _
          c.loop-i-test.true c.requires.2 l.invariant.1
          (search rules)
          c.code_of-u.ensures
          c.write_u64.ensures
          _ (omega arith) c.write_u64.auto.buf c.in-Some.is,
    )

pub shape_of-buf : goal.shape_of-buf
shape_of-buf c = c.loop-i.invariant.1.same

pub returns : goal.returns
returns c = let l = c.loop-i in
    let n : length c.args.numbers.now ≡ param_count = c.requires.0 in
    stands_all c.args.numbers.now _ l.i _ _ _ (omega arith) l.invariant.1
