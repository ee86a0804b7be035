use native.Mathlib.Omega.{arith}
use Rattle.notes.proofs.DigitLaws.{top_fits, top_added}
use Rattle.notes.proofs.with_top.Goals as goal

pub overflow_add-result : goal.overflow_add-result
overflow_add-result c =
    let h = top_fits c.args.ages c.args.age c.args.k c.requires.1.0 c.requires.1.1 c.requires.0 in
    omega arith

pub returns : goal.returns
returns c = top_added c.args.ages c.args.age c.args.k c.requires.1.0 c.requires.1.1 c.requires.0
